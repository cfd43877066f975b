-- Numbers of deleted mailboxes stay such: no mailbox gets one, and no log of it is made.
use Rattle.std.specs.List.{list_any}
use Rattle.std.specs.Prelude.{if◌then◌else◌, not, ◌||◌}
use Rattle.std.proofs.Common.{◌≡◌, ◌≢◌, ◌≤◌, ◌<◌, ◌==◌, ℕ, Bool, true, false, List, [], ◌∷◌, All, refl, sym, ◌∙◌, ap, subst, arith}
use Rattle.std.proofs.lemmas.Bool.{ne_eqb}
use Rattle.std.proofs.lemmas.List.Elements.{All-append, All-cons, All-nil}
use Rattle.mdbox_base.specs.declared.entries.MapEntry.TheVariants as map_entry
use Rattle.mdbox_base.specs.declared.ids.BoxNo.{BoxNo}
use Rattle.model_meaning.specs.MapMeaning.{MapBox, MapMeaning, map_applied}
use Rattle.model_meaning.proofs.AppliedLemmas.{boxes_by_mailbox}
use Rattle.store_core.specs.MadeLogs.{IsUnnamed, KeepsGone, has_made_log, without_box}
use Rattle.store_core.specs.Value.{StoreValue}
use Rattle.store_core.specs.declared.store.OpenBox.{OpenBox}

-- the mailboxes of the map and the logs that were made stay
pub gone_stays : {D : Type 0} → (old new : StoreValue D) → new.map.boxes ≡ old.map.boxes → new.made ≡ old.made → old.map.highest.mailbox ≤ new.map.highest.mailbox → KeepsGone old new
gone_stays old new boxes made higher = λ number g. record {
  given = let below = g.given in omega (arith, below, higher);
  unnamed = subst (λ (bs : List MapBox). All (λ box. box.number ≢ number) bs) (sym boxes) g.unnamed;
  unmade = ap (list_any (λ (o : OpenBox). o.number.0 == number)) made ∙ g.unmade;
}

pub gone_same : {D : Type 0} → (store : StoreValue D) → KeepsGone store store
gone_same store = λ number g. g

-- a log is made, of a number above all
pub gone_created : {D : Type 0} → (number : ℕ) (old new : StoreValue D) → new.map ≡ old.map → old.map.highest.mailbox < number → ((other : ℕ) → has_made_log other new ≡ (has_made_log other old || number == other)) → KeepsGone old new
gone_created number old new map_is above made = λ other g. record {
  given = let below = g.given in let e : new.map.highest.mailbox ≡ old.map.highest.mailbox = ap (λ (m : MapMeaning). m.highest.mailbox) map_is in omega (arith, below, e);
  unnamed = subst (λ (m : MapMeaning). IsUnnamed other m) (sym map_is) g.unnamed;
  unmade = made other ∙ ap (λ (t : Bool). t || number == other) g.unmade ∙ ne_eqb number other (λ e. let below = g.given in omega (arith, below, above, e));
}

-- no log of this number is left where none was
none_left : (number other : ℕ) (made : List OpenBox) → list_any (λ o. o.number.0 == other) made ≡ false → list_any (λ o. o.number.0 == other) (without_box number made) ≡ false
none_left number other [] none = refl
none_left number other (o ∷ os) none = by_tests (o.number.0 == other) (o.number.0 == number) refl none (λ rest. none_left number other os rest)
  where
    by_tests : (t s : Bool) → (o.number.0 == other) ≡ t → (t || list_any (λ x. x.number.0 == other) os) ≡ false → (list_any (λ x. x.number.0 == other) os ≡ false → list_any (λ x. x.number.0 == other) (without_box number os) ≡ false)
        → list_any (λ x. x.number.0 == other) (if not s then o ∷ without_box number os else without_box number os) ≡ false
    by_tests true s e is rest = absurd (let k : true ≡ false = is in cc k)
    by_tests false true e is rest = rest is
    by_tests false false e is rest = ap (λ (t : Bool). t || list_any (λ (x : OpenBox). x.number.0 == other) (without_box number os)) e ∙ rest is

-- such a log is removed
pub gone_removed : {D : Type 0} → (number : ℕ) (old new : StoreValue D) → new.map ≡ old.map → new.made ≡ without_box number old.made → KeepsGone old new
gone_removed number old new map_is made = λ other g. record {
  given = let below = g.given in let e : new.map.highest.mailbox ≡ old.map.highest.mailbox = ap (λ (m : MapMeaning). m.highest.mailbox) map_is in omega (arith, below, e);
  unnamed = subst (λ (m : MapMeaning). IsUnnamed other m) (sym map_is) g.unnamed;
  unmade = ap (list_any (λ (o : OpenBox). o.number.0 == other)) made ∙ none_left number other old.made g.unmade;
}

-- or the map names it
pub gone_named : {D : Type 0} → (mailbox : BoxNo) (name : List ℕ) (old new : StoreValue D) → old.map.highest.mailbox < mailbox.0 → new.map ≡ map_applied (map_entry.B mailbox 1 name) old.map → new.made ≡ without_box mailbox.0 old.made → KeepsGone old new
gone_named mailbox name old new above map_is made = λ other g. record {
  given = let below = g.given in let e : new.map.highest.mailbox ≡ (map_applied (map_entry.B mailbox 1 name) old.map).highest.mailbox = ap (λ (m : MapMeaning). m.highest.mailbox) map_is in omega (arith, below, e);
  unnamed = subst (λ (bs : List MapBox). All (λ box. box.number ≢ other) bs) (sym (ap (λ (m : MapMeaning). m.boxes) map_is ∙ boxes_by_mailbox mailbox 1 name old.map.boxes))
      (All-append (λ (box : MapBox). box.number ≢ other) old.map.boxes (record { number = mailbox.0; generation = 1; name = name } ∷ []) g.unnamed
      (All-cons (λ (box : MapBox). box.number ≢ other) (record { number = mailbox.0; generation = 1; name = name }) [] (λ e. let below = g.given in omega (arith, below, above, e)) (All-nil (λ (box : MapBox). box.number ≢ other))));
  unmade = ap (list_any (λ (o : OpenBox). o.number.0 == other)) made ∙ none_left mailbox.0 other old.made g.unmade;
}

-- and one event after another
pub gone_both : {D : Type 0} → (old now new : StoreValue D) → KeepsGone old now → KeepsGone now new → KeepsGone old new
gone_both old now new first second = λ number g. second number (first number g)
