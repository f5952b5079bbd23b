-- The formats of frames, by their numbers. This project's profile.
use Rattle.std.specs.Prelude.{◌≡◌, ◌⊎◌, ℕ, ◌==◌, if◌then◌else◌}
use Rattle.storage_map.specs.Limits.{Format, format_one, format_two}

-- the number of a format
abbrev pub IsFormat : ℕ → Type 0
IsFormat format = (format ≡ 1) ⊎ (format ≡ 2)

-- the limits of a format: those of format 1, and of every other number those of format 2
abbrev pub limits_of : ℕ → Format
limits_of format = if format == 1 then format_one else format_two
