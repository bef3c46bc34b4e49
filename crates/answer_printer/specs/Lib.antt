pub mod AnswerText
pub mod inside
pub mod LoadRefusal
pub mod PlanText
pub mod ReportText
pub mod ToldName
pub mod WorkedTexts
