-- What the events of a make leave to other tasks, and the log that it has made.
use Rattle.mail_ops.proofs.Common.{◌≡◌, ◌≤◌, ◌<◌, ◌==◌, ◌||◌, ℕ, Bool, true, false, cond, List, [], ◌∷◌, ◌++◌, Option, Some, refl, sym, ◌∙◌, ap, subst, arith, common_steps, nat_tests, eq-eqb, ne_eqb, History, BoxNo, BoxMeaning, box_meaning, MapBox, MapMeaning, meaning_numbered, KeepsUids}
use Rattle.mail_ops.proofs.Common.{has_made_log, IsStore, StoreValue, indexes_of, IsReadyToMake, NamesLog}
use Rattle.std.proofs.Common.{length}
use Rattle.mdbox_base.specs.declared.entries.MapEntry.TheVariants as map_entry
use Rattle.store_core.proofs.NamingLemmas.{one_box_more, box_named}
use Rattle.mail_ops.proofs.CountingLemmas.{one_meaning_each}
use Rattle.mail_ops.proofs.KeptUidLemmas.{highest_rises, kept_on}
use Rattle.mail_ops.specs.Making.{MakesLog}
use Rattle.mail_ops.specs.declared.making.MakeStage.TheVariants as stage

-- ---- logs

-- the log that was made is there
either_last : (a b : Bool) → b ≡ true → (a || b) ≡ true
either_last a b e = grind (arith, common_steps, nat_tests)

pub made_there : {D : Type 0} → (number : BoxNo) (old new : StoreValue D) → MakesLog number.0 old new → IsReadyToMake (stage.Naming number) new
made_there number old new m = m.made number.0 ∙ either_last (has_made_log number.0 old) (number.0 == number.0) (eq-eqb number.0 number.0 refl)

-- ---- the UIDs of other tasks' messages

-- a mailbox more, of another number
other_made : (number : ℕ) (boxes : List MapBox) (meanings : List BoxMeaning) (b : MapBox) (last : BoxMeaning) → (b.number == number) ≡ false → length meanings ≡ length boxes → meaning_numbered number (boxes ++ b ∷ []) (meanings ++ last ∷ []) ≡ meaning_numbered number boxes meanings
other_made number [] [] b last apart same = rw apart refl
other_made number [] (x ∷ xs) b last apart same = absurd (omega (arith, same))
other_made number (c ∷ cs) [] b last apart same = absurd (omega (arith, same))
other_made number (c ∷ cs) (x ∷ xs) b last apart same = ap (λ (o : Option BoxMeaning). cond (c.number == number) (Some x) o) (other_made number cs xs b last apart (omega (arith, same)))

pub naming_keeps : {D : Type 0} → (history : Option History) (number : BoxNo) (name : List ℕ) (old new : StoreValue D) → IsStore history old → old.map.highest.mailbox < number.0 → NamesLog number name old new → KeepsUids old new
naming_keeps history number name old new is above n = λ other uid held k.
    let given : other ≤ old.map.highest.mailbox = k.given in
    kept_on other uid held old new (subst (λ (m : MapMeaning). old.map.highest.mailbox ≤ m.highest.mailbox) (sym n.map) (highest_rises (map_entry.B number 1 name) old.map))
    (ap (λ (bs : List MapBox). meaning_numbered other bs (indexes_of new.boxes)) (ap (λ (m : MapMeaning). m.boxes) n.map ∙ one_box_more old.map number name)
    ∙ (ap (λ (ms : List BoxMeaning). meaning_numbered other (old.map.boxes ++ box_named number name ∷ []) ms) n.indexes
    ∙ other_made other old.map.boxes (indexes_of old.boxes) (box_named number name) (box_meaning []) (ne_eqb number.0 other (λ e. omega (arith, above, given, e))) (one_meaning_each history old is))) k
