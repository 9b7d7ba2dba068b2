pub mod Fronts
pub mod FlowSteps
pub mod FrameFlows
