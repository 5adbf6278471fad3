pub mod ListSteps
pub mod TargetSteps
pub mod AssignmentSteps
pub mod LabelSteps
pub mod StmtSteps
pub mod MakeSteps
