-- The lexical grammar of the script language: begin with Next.
pub mod Bytes
pub mod Cursor
pub mod Ending
pub mod Cut
pub mod Kind
pub mod Lexemes
pub mod Limits
pub mod Longest
pub mod Next
pub mod Place
