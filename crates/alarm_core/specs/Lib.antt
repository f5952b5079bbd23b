pub mod AlarmRule
