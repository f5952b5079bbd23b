-- Which worker is an object's home. This project's profile; SHA-256 is that of FIPS 180-4.
use Rattle.std.specs.Prelude.{ℕ, ◌∷◌, ◌++◌, ◌%◌, take}
use Rattle.std.specs.Int.{w32, from_be_bytes}
use Rattle.sha2.specs.Sha256.{sha256}
use Rattle.storage_map.specs.Limits.{Object}

-- of the SHA-256 of the class, a zero byte and the name, the first four bytes, greatest first, modulo the number of workers
abbrev pub home_of : Object → ℕ → ℕ
home_of object workers = from_be_bytes w32 (take 4 (sha256 (object.0 ++ 0 ∷ object.1))) % workers
