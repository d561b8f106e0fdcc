-- The laws of lines that crates above cite.
pub use Rattle.pm_session.proofs.Kept.{events-shape-append}
pub use Rattle.pm_session.proofs.FirstLine.{IsCut-cut, events-cut, events-no_cut}
