pub mod ClassicalLemmas
pub mod HexTextLemmas
pub mod InPlaceLemmas
pub mod NumberLemmas
pub mod PairLemmas
pub mod PiecesLemmas
pub mod SearchLemmas
