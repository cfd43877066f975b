pub mod AppendListLemmas
