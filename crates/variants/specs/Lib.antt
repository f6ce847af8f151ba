pub mod VisitingAll
