-- What the words ask of serving.
use Rattle.std.specs.Prelude.{string_bytes}
use Rattle.command_words.specs.declared.command.ServeWords.{ServeWords}
use Rattle.host_core.specs.declared.settings.Settings.{Settings}
use Rattle.do_host.specs.ServeRuns.{Serving}

abbrev pub settings_in : ServeWords → Settings
settings_in told = record { folder = told.folder; slots = told.slots; workers = told.workers; journal = told.journal }

-- the same as contracts see it, with the script
abbrev pub serving_in : ServeWords → Serving
serving_in told = record { script = string_bytes told.script; folder = string_bytes told.folder; slots = told.slots; journal = told.journal }
