-- Definitions that only private functions need: no contract of a public function names one.
pub mod Answers
pub mod Brackets
pub mod BracketsInside
pub mod Gives
pub mod Reading
pub mod TokensInside
