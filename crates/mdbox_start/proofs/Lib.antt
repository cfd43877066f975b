mod EmptyLemmas
mod SendLemmas
