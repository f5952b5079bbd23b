-- The tree of a script, its grammar over the tokens, and what the check refuses.
pub mod Accepts
pub mod Asking
pub mod Checked
pub mod Faults
pub mod Forms
pub mod Grammar
pub mod Lexeme
pub mod Lookup
pub mod Names
pub mod Nodes
pub mod Print
pub mod Scope
pub mod Seen
pub mod Tree
pub mod Unplaced
pub mod Written
