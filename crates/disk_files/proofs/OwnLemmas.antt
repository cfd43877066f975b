-- The files of a store stay its own.
use Rattle.std.proofs.Common.{◌≡◌, ◌≢◌, inl, inr, ℕ, ◌<◌, List, sym, ◌∙◌, subst, arith}
use Rattle.folder_model.specs.System.{Node, PlainFile, System, MayStand, IsSystem, with_node, with_new_file, with_synced_names}
use Rattle.disk_files.specs.Follows.{HasOwnFiles}
use Rattle.disk_files.proofs.NameStepLemmas.{may_cases, new_cases, numbered, synced_names_back}

-- fewer files may stand
owns_fewer : (s t : System) → ((path : List ℕ) (number : ℕ) → MayStand t path (PlainFile number) → MayStand s path (PlainFile number)) → HasOwnFiles s → HasOwnFiles t
owns_fewer s t fewer owns = record {
  own = λ path other number is also may stand. owns.own path other number is also (fewer path number may) (fewer other number stand);
  one = λ path number other is may stand. owns.one path number other is (fewer path number may) (fewer path other stand);
}

pub owns_put : (path : List ℕ) (put : Node) (s : System) → ((number : ℕ) → PlainFile number ≢ put) → HasOwnFiles s → HasOwnFiles (with_node path put s)
owns_put path put s apart = owns_fewer s (with_node path put s) (λ q number may. elim (may_cases path q put (PlainFile number) s may) [
  | inl here ↦ absurd (apart number here.1)
  | inr before ↦ before
])

pub owns_synced : (folder : List ℕ) (s : System) → HasOwnFiles s → HasOwnFiles (with_synced_names folder s)
owns_synced folder s = owns_fewer s (with_synced_names folder s) (λ path number may. synced_names_back folder s path (PlainFile number) may)

number_is : (a b : ℕ) → PlainFile a ≡ PlainFile b → a ≡ b
number_is a b e = cc

pub owns_new : (path : List ℕ) (s : System) → IsSystem s → ((number : ℕ) → MayStand s path (PlainFile number) → ⊥) → HasOwnFiles s → HasOwnFiles (with_new_file path s)
owns_new path s system none owns = record {
  own = λ p q number is_p is_q may stand. elim (new_cases s path p (PlainFile number) may) [
    | inl here ↦ elim (new_cases s path q (PlainFile number) stand) [
      | inl there ↦ here.0 ∙ sym there.0
      | inr before ↦ absurd (too_high number (number_is number s.count here.1) (numbered s q number system before))
    ]
    | inr before ↦ elim (new_cases s path q (PlainFile number) stand) [
      | inl there ↦ absurd (too_high number (number_is number s.count there.1) (numbered s p number system before))
      | inr also ↦ owns.own p q number is_p is_q before also
    ]
  ];
  one = λ p number other is_p may stand. elim (new_cases s path p (PlainFile number) may) [
    | inl here ↦ elim (new_cases s path p (PlainFile other) stand) [
      | inl there ↦ number_is number s.count here.1 ∙ sym (number_is other s.count there.1)
      | inr before ↦ let F : List ℕ → Type 0 = λ l. MayStand s l (PlainFile other) in absurd (none other (subst F here.0 before))
    ]
    | inr before ↦ elim (new_cases s path p (PlainFile other) stand) [
      | inl there ↦ let F : List ℕ → Type 0 = λ l. MayStand s l (PlainFile number) in absurd (none number (subst F there.0 before))
      | inr also ↦ owns.one p number other is_p before also
    ]
  ];
}
  where
    too_high : (number : ℕ) → number ≡ s.count → number < s.count → ⊥
    too_high number is below = omega (arith, is, below)
