pub mod EntryTexts
pub mod DictionaryTexts
pub mod Lengths
