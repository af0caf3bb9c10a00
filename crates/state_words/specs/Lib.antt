-- A judge as words.
pub mod StateWords
