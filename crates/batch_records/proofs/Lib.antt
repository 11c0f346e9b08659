pub mod Wire
pub mod BatchReading
pub mod BatchTexts
