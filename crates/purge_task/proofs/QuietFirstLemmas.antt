-- The first event of a purge beside no other task, and those that remove an instance.
use Rattle.purge_task.proofs.Common.{◌≡◌, ◌≢◌, ◌+◌, ◌==◌, ◌&&◌, ◌||◌, ◌++◌, ℕ, Bool, true, false, not, List, [], ◌∷◌, length, Option, Some, None, refl, sym, ◌∙◌, ap, subst, arith, inl, inr, All, Contains, IsSome, option_and_then, option_map, option_map_or, bytes_eq, All-contains}
use Rattle.purge_task.proofs.Common.{All-contains_itself, All-weaker, Contains-append_left, Contains-push, Files, FileName, HasSameOctets, IsClean, IsCleanFile, is_one_of, MapMeaning, MapRecord, is_sealed, record_at, IsSoundMap, equal_yes, pairs_nil, pairs_push, text_is, text_yes, LiesInFile}
use Rattle.purge_task.proofs.Common.{at_uid, end_in, file_in, is_doomed_in, is_emptied_in, is_taken_in, pins_in, MailFile, StoreValue, Emptied, Pinned, Removing, Taken, one_if, at_stage, uncounted, DropsUnwanted, AreAllBut, MayBeEmptied, PurgeValue, HasEmptied, HaveWanted, HoldsCopied, IsAtHand}
use Rattle.purge_task.proofs.Common.{IsOnlyTask, IsQuietSoFar, files_to_empty, sources_to_empty, PurgeStage, fall}
use Rattle.std.proofs.Common.{◌⊎◌}
use Rattle.std.proofs.lemmas.List.Elements.{Contains-push_cases}
use Rattle.disk_model.specs.declared.name.FileName.TheVariants as file
use Rattle.storage_files.specs.Files.{is_sealed_in}
use Rattle.purge_task.specs.Quiet.{HaveInstancesGone, IsUncleanFile}
use Rattle.purge_task.specs.declared.task.PurgeStage.TheVariants as stage
use Rattle.purge_task.proofs.CleanLemmas.{may_be_emptied}
use Rattle.purge_task.proofs.DropLemmas.{drops_none}
use Rattle.purge_task.proofs.QuietEndLemmas.{none_within}
use Rattle.purge_task.proofs.QuietLemmas.{emptied_none}
use Rattle.purge_task.proofs.QuietSwitchLemmas.{emptied_as}

-- ---- the files as it begins

-- What a store without a task knows of its files, and its disk has.
pub record AreFilesAtFirst {D : Type 0} (store : StoreValue D) (files : Files) : Type 0 where
  pub only : IsOnlyTask stage.First store
  pub long : (number : ℕ) → option_map length (files (file.Mail number)) ≡ end_in number store.files.files
  pub sealed : (number : ℕ) (f : MailFile) → file_in number store.files.files ≡ Some f → f.sealed ≡ is_sealed store.map number
  pub whole : All (LiesInFile files) store.map.records

none_if : (b : Bool) → one_if b ≡ 0 → b ≡ false
none_if false e = refl
none_if true e = absurd (omega (arith, e))

-- nobody has taken or doomed a file
untaken : {D : Type 0} → (store : StoreValue D) (n : ℕ) → IsOnlyTask stage.First store → (is_taken_in n store.files.files ≡ false) × (is_emptied_in n store.files.files ≡ false) × (is_doomed_in n store.files.files ≡ false)
untaken store n only = (none_if (is_taken_in n store.files.files) (only (Taken n)), none_if (is_emptied_in n store.files.files) (only (Emptied n)), undoomed (is_doomed_in n store.files.files) (none_if (is_doomed_in n store.files.files && pins_in n store.files.files == 0) (only (Removing n))))
  where
    unpinned : (pins_in n store.files.files == 0) ≡ true
    unpinned = equal_yes (pins_in n store.files.files) 0 (only (Pinned n))

    undoomed : (b : Bool) → (b && pins_in n store.files.files == 0) ≡ false → b ≡ false
    undoomed false e = refl
    undoomed true e = absurd (fall (pins_in n store.files.files == 0) unpinned e)

-- so each that is there and isn't sealed may be emptied
may_be : {D : Type 0} → (store : StoreValue D) (files : Files) (n : ℕ) (octets : List ℕ) → AreFilesAtFirst store files → files (file.Mail n) ≡ Some octets → is_sealed store.map n ≡ false → MayBeEmptied store.files.files n
may_be store files n octets h reads bare = may_be_emptied store.files.files n (not (is_taken_in n store.files.files || is_emptied_in n store.files.files) && not (is_doomed_in n store.files.files) && not (is_sealed_in n store.files.files)) (subst (λ (o : Option ℕ). IsSome o) end_is refl) refl (free (untaken store n h.only) (unsealed (file_in n store.files.files) refl))
  where
    end_is : Some (length octets) ≡ end_in n store.files.files
    end_is = sym (ap (λ (o : Option (List ℕ)). option_map length o) reads) ∙ h.long n

    unsealed : (o : Option MailFile) → file_in n store.files.files ≡ o → is_sealed_in n store.files.files ≡ false
    unsealed None e = ap (λ (o : Option MailFile). option_map_or (λ f. f.sealed) o false) e
    unsealed (Some f) e = ap (λ (o : Option MailFile). option_map_or (λ f. f.sealed) o false) e ∙ (h.sealed n f e ∙ bare)

    free : (is_taken_in n store.files.files ≡ false) × (is_emptied_in n store.files.files ≡ false) × (is_doomed_in n store.files.files ≡ false) → is_sealed_in n store.files.files ≡ false → (not (is_taken_in n store.files.files || is_emptied_in n store.files.files) && not (is_doomed_in n store.files.files) && not (is_sealed_in n store.files.files)) ≡ true
    free (t, e, d) s = ap (λ (b : Bool). not (b || is_emptied_in n store.files.files) && not (is_doomed_in n store.files.files) && not (is_sealed_in n store.files.files)) t
        ∙ (ap (λ (b : Bool). not b && not (is_doomed_in n store.files.files) && not (is_sealed_in n store.files.files)) e ∙ (ap (λ (b : Bool). not b && not (is_sealed_in n store.files.files)) d ∙ ap not s))

-- ---- as it begins

-- The stage behind the first event has the found files to empty, and nothing at hand.
pub quiet_begins : {D : Type 0} → (files : Files) (t : PurgeValue) (on : PurgeStage) (numbers : List ℕ) (old new : StoreValue D) → AreFilesAtFirst old files → AreAllBut (IsCleanFile files old.map) old.files.files numbers → All (λ number. IsCleanFile files old.map number → ⊥) numbers → IsSoundMap old.map
    → numbers ≡ files_to_empty on → HaveWanted old.map (sources_to_empty on) → HoldsCopied files old.map on → IsOnlyTask on new → new.map ≡ old.map → IsQuietSoFar files old.map (at_stage on (uncounted t)) new files
quiet_begins files t on numbers old new h finds unclean sound left wanted holds only same = record {
  only = only;
  whole = h.whole;
  numbers = numbers;
  numbers_are = record {
    rising = finds.rising;
    exactly = λ n. (is_unclean n, λ u. found n u (files (file.Mail n)) refl);
  };
  done = [];
  parted = left;
  counted = refl;
  emptied = subst (λ (m : MapMeaning). HasEmptied old.map m (is_one_of []) (is_one_of (files_to_empty on))) (sym same) (emptied_as old.map old.map (λ n. false) (is_one_of (files_to_empty on)) (is_one_of []) (is_one_of (files_to_empty on)) (λ n. refl) (λ n e. e) (emptied_none old.map (is_one_of (files_to_empty on))));
  drops = drops_none old.map new.map same;
  wanted = subst (λ (m : MapMeaning). HaveWanted m (sources_to_empty on)) (sym same) wanted;
  clean = λ n octets reads bare. clean n octets reads (subst (λ (m : MapMeaning). is_sealed m n ≡ false) same bare);
  target = subst (λ (m : MapMeaning). HoldsCopied files m on) (sym same) holds;
  regions = λ row now cr cn uid. region row now cr (subst (λ (m : MapMeaning). Contains m.records now) same cn) uid;
  untouched = λ n sealed. refl;
  gone = [];
  gone_are = record {
    once = pairs_nil (λ (x y : List ℕ × List ℕ). x ≢ y);
    are = λ hash id. ((λ c. absurd (none_within (hash, id) c)), λ r. absurd (r.0 r.1));
    others = λ hash id there. refl;
  };
  removed = refl;
}
  where
    some_octets : (f : MailFile) (n : ℕ) → file_in n old.files.files ≡ Some f → IsSome f.end → files (file.Mail n) ≢ None
    some_octets f n known there gone =
        let none : end_in n old.files.files ≡ None = sym (h.long n) ∙ ap (λ (o : Option (List ℕ)). option_map length o) gone in
        let e : f.end ≡ None = sym (ap (λ (o : Option MailFile). option_and_then (λ f. f.end) o) known) ∙ none in
        let k : false ≡ true = subst (λ (o : Option ℕ). IsSome o) e there in
        cc k

    is_unclean : (n : ℕ) → Contains numbers n → IsUncleanFile files old.map n
    is_unclean n c =
        let m = All-contains (MayBeEmptied old.files.files) numbers n finds.free c in
        record {
          there = some_octets m.f n m.known m.there;
          unsealed = sym (h.sealed n m.f m.known) ∙ m.unsealed;
          unclean = All-contains (λ number. IsCleanFile files old.map number → ⊥) numbers n unclean c;
        }

    found : (n : ℕ) → IsUncleanFile files old.map n → (o : Option (List ℕ)) → files (file.Mail n) ≡ o → Contains numbers n
    found n u None e = absurd (u.there e)
    found n u (Some octets) e = elim (finds.every n (may_be old files n octets h e u.unsealed)) [
      | inl c ↦ c
      | inr is ↦ absurd (u.unclean is)
    ]

    clean : (n : ℕ) (octets : List ℕ) → files (file.Mail n) ≡ Some octets → is_sealed old.map n ≡ false → Contains (files_to_empty on) n ⊎ IsAtHand on n ⊎ IsClean new.map n octets
    clean n octets reads bare = elim (finds.every n (may_be old files n octets h reads bare)) [
      | inl c ↦ inl (subst (λ (ns : List ℕ). Contains ns n) left c)
      | inr is ↦ inr (inr (subst (λ (m : MapMeaning). IsClean m n octets) (sym same) (subst (λ (o : List ℕ). IsClean old.map n o) (let e : Some is.0 ≡ Some octets = sym is.1 ∙ reads in cc e) is.2)))
    ]

    region : (row now : MapRecord) → Contains old.map.records row → Contains old.map.records now → now.uid ≡ row.uid → HasSameOctets files files row now
    region row now cr cn uid =
        let is : row ≡ now = (let e : Some row ≡ Some now = sym (at_uid old.map row sound cr) ∙ (ap (record_at old.map) (sym uid) ∙ at_uid old.map now sound cn) in cc e) in
        let lies : LiesInFile files row = All-contains (LiesInFile files) old.map.records row h.whole cr in
        subst (λ (r : MapRecord). HasSameOctets files files row r) is (record { there = lies.octets; now = lies.octets; in_old = lies.there; in_new = lies.there; same = refl })

-- ---- an instance is removed

-- the task with one instance more counted
abbrev pub instance_counted : PurgeValue → PurgeValue
instance_counted t = record t { instances = t.instances + 1 }

both_text : (a b c d : List ℕ) → (bytes_eq a c && bytes_eq b d) ≡ true → (a ≡ c) × (b ≡ d)
both_text a b c d e = by_flags (bytes_eq a c) (bytes_eq b d) refl refl e
  where
    by_flags : (x y : Bool) → bytes_eq a c ≡ x → bytes_eq b d ≡ y → (x && y) ≡ true → (a ≡ c) × (b ≡ d)
    by_flags true true p q e = (text_is a c p, text_is b d q)
    by_flags true false p q e = absurd (let k : false ≡ true = e in cc k)
    by_flags false y p q e = absurd (let k : false ≡ true = e in cc k)

other_name : (a b c d : List ℕ) → (bytes_eq a c && bytes_eq b d) ≡ false → file.Inst a b ≢ file.Inst c d
other_name a b c d e is =
    let p : a ≡ c = cc is in
    let q : b ≡ d = cc is in
    fall (bytes_eq a c && bytes_eq b d) (ap (λ (x : Bool). x && bytes_eq b d) (text_yes a c p) ∙ text_yes b d q) e

abbrev name_of : List ℕ → List ℕ → List ℕ × List ℕ
name_of hash id = (hash, id)

pub gone_more : (began a b : Files) (gone : List (List ℕ × List ℕ)) (hash id : List ℕ) → HaveInstancesGone began a gone → a (file.Inst hash id) ≢ None → b (file.Inst hash id) ≡ None → ((other : FileName) → other ≢ file.Inst hash id → b other ≡ a other) → HaveInstancesGone began b (gone ++ (hash, id) ∷ [])
gone_more began a b gone hash id h there none others = record {
  once = pairs_push (λ (x y : List ℕ × List ℕ). x ≢ y) gone (hash, id) h.once (All-weaker (Contains gone) (λ (x : List ℕ × List ℕ). x ≢ name_of hash id) (λ x c is. there ((h.are hash id).0 (subst (λ (y : List ℕ × List ℕ). Contains gone y) is c)).1) gone (All-contains_itself gone));
  are = λ x y. (forth x y, back x y);
  others = λ x y some. by_name x y some (bytes_eq x hash && bytes_eq y id) refl;
}
  where
    was : began (file.Inst hash id) ≢ None
    was e = there (h.others hash id there ∙ e)

    here : (x y : List ℕ) → (bytes_eq x hash && bytes_eq y id) ≡ true → name_of x y ≡ name_of hash id
    here x y e = let s = both_text x y hash id e in ap (λ (u : List ℕ). (u, y)) s.0 ∙ ap (λ (u : List ℕ). (hash, u)) s.1

    gone_here : (x y : List ℕ) → name_of x y ≡ name_of hash id → (began (file.Inst x y) ≢ None) × (b (file.Inst x y) ≡ None)
    gone_here x y is = subst (λ (p : List ℕ × List ℕ). (began (file.Inst p.0 p.1) ≢ None) × (b (file.Inst p.0 p.1) ≡ None)) (sym is) (was, none)

    forth : (x y : List ℕ) → Contains (gone ++ (hash, id) ∷ []) (x, y) → (began (file.Inst x y) ≢ None) × (b (file.Inst x y) ≡ None)
    forth x y c = by_case (Contains-push_cases gone (hash, id) (x, y) c)
      where
        by_name : Contains gone (x, y) → (e : Bool) → (bytes_eq x hash && bytes_eq y id) ≡ e → (began (file.Inst x y) ≢ None) × (b (file.Inst x y) ≡ None)
        by_name d true e = gone_here x y (here x y e)
        by_name d false e = let r = (h.are x y).0 d in (r.0, others (file.Inst x y) (other_name x y hash id e) ∙ r.1)

        by_case : Contains gone (x, y) ⊎ (name_of hash id ≡ name_of x y) → (began (file.Inst x y) ≢ None) × (b (file.Inst x y) ≡ None)
        by_case (inl d) = by_name d (bytes_eq x hash && bytes_eq y id) refl
        by_case (inr is) = gone_here x y (sym is)

    back : (x y : List ℕ) → (began (file.Inst x y) ≢ None) × (b (file.Inst x y) ≡ None) → Contains (gone ++ (hash, id) ∷ []) (x, y)
    back x y (some, now) = by_name (bytes_eq x hash && bytes_eq y id) refl
      where
        by_name : (e : Bool) → (bytes_eq x hash && bytes_eq y id) ≡ e → Contains (gone ++ (hash, id) ∷ []) (x, y)
        by_name true e = subst (λ (p : List ℕ × List ℕ). Contains (gone ++ (hash, id) ∷ []) p) (sym (here x y e)) (Contains-push gone (hash, id))
        by_name false e = Contains-append_left gone ((hash, id) ∷ []) (x, y) ((h.are x y).1 (some, sym (others (file.Inst x y) (other_name x y hash id e)) ∙ now))

    by_name : (x y : List ℕ) → b (file.Inst x y) ≢ None → (e : Bool) → (bytes_eq x hash && bytes_eq y id) ≡ e → b (file.Inst x y) ≡ began (file.Inst x y)
    by_name x y some true e = absurd (some (gone_here x y (here x y e)).1)
    by_name x y some false e = let same = others (file.Inst x y) (other_name x y hash id e) in same ∙ h.others x y (λ was_none. some (same ∙ was_none))

mail_no_inst : (n : ℕ) (hash id : List ℕ) → file.Mail n ≢ file.Inst hash id
mail_no_inst n hash id e = cc e

push_long : {X : Type 0} → (xs : List X) (x : X) → length (xs ++ x ∷ []) ≡ length xs + 1
push_long [] x = omega arith
push_long (y ∷ ys) x = let e = push_long ys x in omega (arith, e)

pub quiet_instance : {D : Type 0} → (began a b : Files) (first : MapMeaning) (t : PurgeValue) (hash id : List ℕ) (old new : StoreValue D) → IsQuietSoFar began first (at_stage stage.Instances t) old a → a (file.Inst hash id) ≢ None → b (file.Inst hash id) ≡ None → ((other : FileName) → other ≢ file.Inst hash id → b other ≡ a other)
    → new.map ≡ old.map → IsOnlyTask stage.Instances new → IsQuietSoFar began first (at_stage stage.Instances (instance_counted t)) new b
quiet_instance began a b first t hash id old new h there none others same only = record {
  only = only;
  whole = h.whole;
  numbers = h.numbers;
  numbers_are = h.numbers_are;
  done = h.done;
  parted = h.parted;
  counted = h.counted;
  emptied = subst (λ (m : MapMeaning). HasEmptied first m (is_one_of h.done) (is_one_of [])) (sym same) h.emptied;
  drops = subst (λ (m : MapMeaning). DropsUnwanted first m t.dropped) (sym same) h.drops;
  wanted = subst (λ (m : MapMeaning). HaveWanted m []) (sym same) h.wanted;
  clean = λ n octets reads bare. subst (λ (m : MapMeaning). Contains [] n ⊎ ⊥ ⊎ IsClean m n octets) (sym same) (h.clean n octets (sym (others (file.Mail n) (mail_no_inst n hash id)) ∙ reads) (subst (λ (m : MapMeaning). is_sealed m n ≡ false) same bare));
  target = tt;
  regions = λ row now cr cn uid. (let r = h.regions row now cr (subst (λ (m : MapMeaning). Contains m.records now) same cn) uid in record { there = r.there; now = r.now; in_old = r.in_old; in_new = others (file.Mail now.file) (mail_no_inst now.file hash id) ∙ r.in_new; same = r.same });
  untouched = λ n sealed. others (file.Mail n) (mail_no_inst n hash id) ∙ h.untouched n sealed;
  gone = h.gone ++ (hash, id) ∷ [];
  gone_are = gone_more began a b h.gone hash id h.gone_are there none others;
  removed = (let e = h.removed in let l = push_long h.gone (hash, id) in omega (arith, e, l));
}
