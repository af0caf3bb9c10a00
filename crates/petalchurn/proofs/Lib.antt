-- What is proved of the interface for hosts besides its functions: what each call leaves, and a host's run.
pub mod CallLaws
pub mod PreviewLaws
pub mod AnswerLaws
pub mod Runs
pub mod Campaigns
pub mod AnyOrder
