pub mod Steps
pub mod ExprSteps
pub mod TokenSteps
pub mod DvalSteps
