pub mod NameLaws
pub mod MarkBytes
pub mod MarkCalls
pub mod MarkHistoryLaws
pub mod HeldBytes
pub mod MarkLaw
