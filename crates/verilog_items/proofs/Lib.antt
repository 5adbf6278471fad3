pub mod PushSteps
pub mod DelaySteps
pub mod DeclSteps
pub mod HeaderSteps
pub mod InstanceSteps
