-- Which logs aren't in force.
use Rattle.std.specs.Prelude.{◌≡◌, ◌≢◌, ◌<◌, ◌==◌, ℕ, Bool, true, false, if◌then◌else◌, List, [], ◌∷◌, ◌++◌, map, Some, All, refl}
use Rattle.std.proofs.Common.{sym, ◌∙◌, ap, arith, subst}
use Rattle.std.proofs.lemmas.Bool.{false≢true}
use Rattle.std.proofs.lemmas.List.Elements.{All-nil, All-cons, All-weaker}
use Rattle.disk_model.specs.declared.name.FileName.TheVariants as file
use Rattle.mdbox_base.specs.declared.entries.MapEntry.{MapEntry}
use Rattle.mdbox_base.specs.declared.entries.MapEntry.TheVariants as entry
use Rattle.mdbox_base.specs.declared.ids.BoxNo.{BoxNo}
use Rattle.model_meaning.proofs.MapPlaceLemmas.{equal_yes}
use Rattle.model_meaning.proofs.MapSoundLemmas.{map_sound}
use Rattle.model_meaning.specs.MapFits.{MapFits}
use Rattle.model_meaning.specs.MapMeaning.{MapBox, MapMeaning, map_meaning, box_changed, box_at}
use Rattle.model_octets.proofs.PairLemmas.{IsOnly}
use Rattle.model_store.specs.Opening.{AreMapEntries}
use Rattle.model_rewritten.specs.Unneeded.{IsUnneeded}
use Rattle.model_rewritten.proofs.SwitchLemmas.{boxes_with, only_box}

both : (k l g h : ℕ) → file.Box k g ≡ file.Box l h → (k ≡ l) × (g ≡ h)
both k l g h e = (cc e, cc e)

out_of_force : (g : ℕ) (m : MapMeaning) (number generation : ℕ) → All (λ (box : MapBox). file.Box box.number box.generation ≢ file.Box number generation) m.boxes → IsUnneeded g m (file.Box number generation)
out_of_force g m number generation apart = record { is = refl; no_root = λ e. absurd (cc e); no_map = λ e. absurd (cc e); no_box = apart }

pub unneeded_mailbox : (g : ℕ) (m : MapMeaning) (number generation : ℕ) → All (λ box. box.number ≡ number → box.generation ≢ generation) m.boxes → IsUnneeded g m (file.Box number generation)
unneeded_mailbox g m number generation apart =
    out_of_force g m number generation
    (All-weaker (λ (box : MapBox). box.number ≡ number → box.generation ≢ generation) (λ (box : MapBox). file.Box box.number box.generation ≢ file.Box number generation)
    (λ box other e. let p = both box.number number box.generation generation e in other p.0 p.1) m.boxes apart)

no_boxes : (g : ℕ) (boxes : List MapBox) → All (λ (box : MapBox). file.Box box.number box.generation ≢ file.Map g) boxes
no_boxes g [] = All-nil (λ (box : MapBox). file.Box box.number box.generation ≢ file.Map g)
no_boxes g (box ∷ boxes) = All-cons (λ (b : MapBox). file.Box b.number b.generation ≢ file.Map g) box boxes (λ e. absurd (cc e)) (no_boxes g boxes)

pub unneeded_map : (g h : ℕ) (m : MapMeaning) → h ≢ g → IsUnneeded g m (file.Map h)
unneeded_map g h m apart = record { is = refl; no_root = λ e. absurd (cc e); no_map = λ e. apart (let w : file.Map h ≡ file.Map g = e in cc w); no_box = no_boxes h m.boxes }

pub unneeded_before : (g : ℕ) (store : List ℕ) (entries : List MapEntry) (mailbox : BoxNo) (generation : ℕ) → AreMapEntries store entries → MapFits (map_meaning store entries) (entry.G mailbox generation)
    → IsUnneeded g (map_meaning store entries) (file.Box mailbox.0 generation)
unneeded_before g store entries mailbox generation good fits =
    let m : MapMeaning = map_meaning store entries in
    let box : MapBox = fits.2.0 in
    let less : box.generation < generation = fits.2.2 in
    unneeded_mailbox g m mailbox.0 generation
    (All-weaker (IsOnly (λ (b : MapBox). b.number == mailbox.0) box) (λ (b : MapBox). b.number ≡ mailbox.0 → b.generation ≢ generation)
    (λ b only is e. let same = ap (λ (o : MapBox). o.generation) (only (equal_yes b.number mailbox.0 is)) in omega (arith, same, less, e)) m.boxes
    (only_box m mailbox.0 box (map_sound store entries good.1 good.0) fits.2.1))

-- the mailbox of this number has a later generation then
later_box : (k : BoxNo) (old new : ℕ) (b : MapBox) → old < new → file.Box (box_changed (entry.G k new) b).number (box_changed (entry.G k new) b).generation ≢ file.Box k.0 old
later_box k old new b less = one (k.0 == b.number) refl
  where
    one : (t : Bool) → (k.0 == b.number) ≡ t → file.Box (if t then record b { generation = new } else b).number (if t then record b { generation = new } else b).generation ≢ file.Box k.0 old
    one true e p = let same = (both b.number k.0 new old p).1 in omega (arith, same, less)
    one false e p = false≢true (sym e ∙ equal_yes k.0 b.number (sym (both b.number k.0 b.generation old p).0))

pub unneeded_after : (g : ℕ) (store : List ℕ) (entries : List MapEntry) (mailbox : BoxNo) (generation : ℕ) (box : MapBox) → MapFits (map_meaning store entries) (entry.G mailbox generation)
    → box_at (map_meaning store entries) mailbox.0 ≡ Some box → IsUnneeded g (map_meaning store (entries ++ entry.G mailbox generation ∷ [])) (file.Box mailbox.0 box.generation)
unneeded_after g store entries mailbox generation box fits found =
    let m : MapMeaning = map_meaning store entries in
    let n : MapMeaning = map_meaning store (entries ++ entry.G mailbox generation ∷ []) in
    let twice : Some fits.2.0 ≡ Some box = sym fits.2.1 ∙ found in
    let one : fits.2.0 ≡ box = cc twice in
    let less : box.generation < generation = subst (λ (b : MapBox). b.generation < generation) one fits.2.2 in
    out_of_force g n mailbox.0 box.generation
    (subst (λ (bs : List MapBox). All (λ (b : MapBox). file.Box b.number b.generation ≢ file.Box mailbox.0 box.generation) bs) (sym (boxes_with store entries mailbox generation)) (each m.boxes less))
  where
    each : (boxes : List MapBox) → box.generation < generation → All (λ (b : MapBox). file.Box b.number b.generation ≢ file.Box mailbox.0 box.generation) (map (box_changed (entry.G mailbox generation)) boxes)
    each [] less = All-nil (λ (b : MapBox). file.Box b.number b.generation ≢ file.Box mailbox.0 box.generation)
    each (b ∷ boxes) less =
        All-cons (λ (c : MapBox). file.Box c.number c.generation ≢ file.Box mailbox.0 box.generation) (box_changed (entry.G mailbox generation) b) (map (box_changed (entry.G mailbox generation)) boxes) (later_box mailbox box.generation generation b less) (each boxes less)
