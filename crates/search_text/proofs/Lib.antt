pub mod RunLaws
pub mod StepLaws
pub mod GradeLaws
pub mod ErrorLaws
pub mod ChosenLaws
