use Rattle.std.proofs.Common.{◌≡◌, ◌↔◌, Bool, true, false, refl}
use Rattle.std.proofs.lemmas.Bool.{false_from_ne_true}
use Rattle.disk_model.proofs.NameLemmas.{same_name_iff}
use Rattle.disk_model.proofs.name.is_named.Goals as goal

same_test : {P : Type 0} (a b : Bool) → (a ≡ true) ↔ P → (b ≡ true) ↔ P → a ≡ b
same_test a true p q = p.1 (q.0 refl)
same_test a false p q = false_from_ne_true a (λ e. absurd (let t : false ≡ true = q.1 (p.0 e) in cc))

pub returns : goal.returns
returns c = same_test _ _ c.same_file.ensures (same_name_iff c.args.name c.args.own)
