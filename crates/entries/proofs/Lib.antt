pub mod SlashFree
pub mod FirstFault
