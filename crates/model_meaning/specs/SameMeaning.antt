-- Meanings of map logs that differ at most in the generations of mailbox logs.
use Rattle.std.specs.Prelude.{◌≡◌, map}
use Rattle.model_meaning.specs.MapMeaning.{MapMeaning}

-- The same store, records, sealed files and highest numbers, and mailboxes with the same numbers and names in the same
-- order. The generations of their logs may differ: a new snapshot of a log changes nothing else.
pub record MeansSame (m n : MapMeaning) : Type 0 where
  pub store : n.store ≡ m.store
  pub records : n.records ≡ m.records
  pub numbers : map (λ box. box.number) n.boxes ≡ map (λ box. box.number) m.boxes
  pub names : map (λ box. box.name) n.boxes ≡ map (λ box. box.name) m.boxes
  pub sealed : n.sealed ≡ m.sealed
  pub highest : n.highest ≡ m.highest
