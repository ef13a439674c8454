pub mod Token
pub mod Lexing
pub mod Name
pub mod FrontView
pub mod Cutting
pub mod Canonical
pub mod Table
pub mod TableFault
