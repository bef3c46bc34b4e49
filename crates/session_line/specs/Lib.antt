pub mod SessionRequest
