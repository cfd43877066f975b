-- An event of a purge beside no other task that changes one storage file, and leaves the map as it is.
use Rattle.purge_task.proofs.Common.{◌≡◌, ◌≢◌, ◌+◌, ◌==◌, ◌++◌, ℕ, Bool, true, false, List, [], ◌∷◌, length, Some, None, refl, sym, ◌∙◌, ap, subst, arith, inl, inr, Contains, eqb-true, All-contains, Files, HasSameOctets, IsClean, is_one_of, MapMeaning, MapRecord, is_sealed, equal_yes, AreElsewhere}
use Rattle.purge_task.proofs.Common.{StoreValue, DropsUnwanted, PurgeValue, HasEmptied, HaveWanted, HoldsCopied, IsAtHand, IsOnlyTask, IsQuietSoFar, files_to_empty, sources_to_empty, fall}
use Rattle.std.proofs.Common.{◌⊎◌}
use Rattle.std.proofs.lemmas.List.Elements.{Contains-append_cases}
use Rattle.disk_model.specs.declared.name.FileName.TheVariants as file
use Rattle.purge_task.specs.Quiet.{HaveInstancesGone}

pub append_both : {X : Type 0} → (xs ys zs : List X) → (xs ++ ys) ++ zs ≡ xs ++ (ys ++ zs)
append_both [] ys zs = refl
append_both (x ∷ xs) ys zs = ap (λ (l : List _). x ∷ l) (append_both xs ys zs)

pub append_long : {X : Type 0} → (xs ys : List X) → length (xs ++ ys) ≡ length xs + length ys
append_long [] ys = omega arith
append_long (x ∷ xs) ys = let e = append_long xs ys in omega (arith, e)

-- instances that are as they were
pub gone_same : (began a b : Files) (gone : List (List ℕ × List ℕ)) → ((hash id : List ℕ) → b (file.Inst hash id) ≡ a (file.Inst hash id)) → HaveInstancesGone began a gone → HaveInstancesGone began b gone
gone_same began a b gone same h = record {
  once = h.once;
  are = λ hash id. ((λ c. let r = (h.are hash id).0 c in (r.0, same hash id ∙ r.1)), λ r. (h.are hash id).1 (r.0, sym (same hash id) ∙ r.1));
  others = λ hash id there. same hash id ∙ h.others hash id (λ none. there (same hash id ∙ none));
}

-- What an event says that changes one file: the others and the instances are as they were, no record lies in it, and it isn't sealed. It is at
-- hand then, or gone, and no other is at hand any more that was.
pub record ChangesOne {D : Type 0} (own : ℕ) (t next : PurgeValue) (old new : StoreValue D) (a b : Files) : Type 0 where
  pub map_is : new.map ≡ old.map
  pub only : IsOnlyTask next.stage new
  pub mails : (number : ℕ) → number ≢ own → b (file.Mail number) ≡ a (file.Mail number)
  pub instances : (hash id : List ℕ) → b (file.Inst hash id) ≡ a (file.Inst hash id)
  pub elsewhere : AreElsewhere own old.map.records
  pub unsealed : is_sealed old.map own ≡ false
  pub own_is : (b (file.Mail own) ≡ None) ⊎ IsAtHand next.stage own
  pub hand : (number : ℕ) → IsAtHand t.stage number → number ≢ own → IsAtHand next.stage number
  pub target : HoldsCopied b new.map next.stage
  pub dropped : next.dropped ≡ t.dropped
  pub removed : next.instances ≡ t.instances

pub quiet_changes : {D : Type 0} → (own : ℕ) (more : List ℕ) (began a b : Files) (first : MapMeaning) (t next : PurgeValue) (old new : StoreValue D) (h : IsQuietSoFar began first t old a) → ChangesOne own t next old new a b → files_to_empty t.stage ≡ more ++ files_to_empty next.stage → ((number : ℕ) → Contains more number → number ≡ own)
    → next.files ≡ t.files + length more → HasEmptied first old.map (is_one_of (h.done ++ more)) (is_one_of (files_to_empty next.stage)) → HaveWanted old.map (sources_to_empty next.stage) → IsQuietSoFar began first next new b
quiet_changes own more began a b first t next old new h c left mine counted emptied wanted = record {
  only = c.only;
  whole = h.whole;
  numbers = h.numbers;
  numbers_are = h.numbers_are;
  done = h.done ++ more;
  parted = h.parted ∙ (ap (λ (ns : List ℕ). h.done ++ ns) left ∙ sym (append_both h.done more (files_to_empty next.stage)));
  counted = (let e = h.counted in let l = append_long h.done more in omega (arith, e, l, counted));
  emptied = subst (λ (m : MapMeaning). HasEmptied first m (is_one_of (h.done ++ more)) (is_one_of (files_to_empty next.stage))) (sym c.map_is) emptied;
  drops = subst (λ (m : MapMeaning). DropsUnwanted first m next.dropped) (sym c.map_is) (subst (λ (n : ℕ). DropsUnwanted first old.map n) (sym c.dropped) h.drops);
  wanted = subst (λ (m : MapMeaning). HaveWanted m (sources_to_empty next.stage)) (sym c.map_is) wanted;
  clean = clean;
  target = c.target;
  regions = λ row now cr cn same. region row now (h.regions row now cr (subst (λ (m : MapMeaning). Contains m.records now) c.map_is cn) same) (All-contains (λ (r : MapRecord). r.file ≢ own) old.map.records now c.elsewhere (subst (λ (m : MapMeaning). Contains m.records now) c.map_is cn));
  untouched = λ n sealed. c.mails n (λ is. fall (is_sealed old.map own) (ap (is_sealed old.map) (sym is) ∙ (ap (λ (ns : List ℕ). is_sealed (record first { sealed = ns }) n) h.drops.seals ∙ sealed)) c.unsealed) ∙ h.untouched n sealed;
  gone = h.gone;
  gone_are = gone_same began a b h.gone c.instances h.gone_are;
  removed = c.removed ∙ h.removed;
}
  where
    region : (row now : MapRecord) → HasSameOctets began a row now → now.file ≢ own → HasSameOctets began b row now
    region row now r apart = record { there = r.there; now = r.now; in_old = r.in_old; in_new = c.mails now.file apart ∙ r.in_new; same = r.same }

    clean : (number : ℕ) (octets : List ℕ) → b (file.Mail number) ≡ Some octets → is_sealed new.map number ≡ false → Contains (files_to_empty next.stage) number ⊎ IsAtHand next.stage number ⊎ IsClean new.map number octets
    clean number octets reads bare = by_test (number == own) refl
      where
        by_left : number ≢ own → Contains more number ⊎ Contains (files_to_empty next.stage) number → Contains (files_to_empty next.stage) number ⊎ IsAtHand next.stage number ⊎ IsClean new.map number octets
        by_left apart (inl now) = absurd (apart (mine number now))
        by_left apart (inr later) = inl later

        was : number ≢ own → Contains (files_to_empty t.stage) number ⊎ IsAtHand t.stage number ⊎ IsClean old.map number octets → Contains (files_to_empty next.stage) number ⊎ IsAtHand next.stage number ⊎ IsClean new.map number octets
        was apart (inl l) = by_left apart (Contains-append_cases more (files_to_empty next.stage) number (subst (λ (ns : List ℕ). Contains ns number) left l))
        was apart (inr (inl hand)) = inr (inl (c.hand number hand apart))
        was apart (inr (inr is)) = inr (inr (subst (λ (m : MapMeaning). IsClean m number octets) (sym c.map_is) is))

        here : number ≡ own → (b (file.Mail own) ≡ None) ⊎ IsAtHand next.stage own → Contains (files_to_empty next.stage) number ⊎ IsAtHand next.stage number ⊎ IsClean new.map number octets
        here is (inl none) = absurd (let e : None ≡ Some octets = sym none ∙ (ap (λ (n : ℕ). b (file.Mail n)) (sym is) ∙ reads) in cc e)
        here is (inr hand) = inr (inl (subst (λ (n : ℕ). IsAtHand next.stage n) (sym is) hand))

        apart_by : (number == own) ≡ false → number ≢ own
        apart_by e is = fall (number == own) (equal_yes number own is) e

        by_test : (e : Bool) → (number == own) ≡ e → Contains (files_to_empty next.stage) number ⊎ IsAtHand next.stage number ⊎ IsClean new.map number octets
        by_test true e = here (eqb-true number own e) c.own_is
        by_test false e = was (apart_by e) (h.clean number octets (sym (c.mails number (apart_by e)) ∙ reads) (subst (λ (m : MapMeaning). is_sealed m number ≡ false) c.map_is bare))
