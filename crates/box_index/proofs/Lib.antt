pub mod BoxAppliedLemmas
pub mod PiecesLemmas
pub mod RisingLemmas
pub mod RowLemmas
