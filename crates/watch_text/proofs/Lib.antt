pub mod MailTexts
pub mod Stopping
pub mod JoinedLines
pub mod WatchedEnds
pub mod PartOfAll
pub mod ObjectStandings
pub mod ReportEnds
