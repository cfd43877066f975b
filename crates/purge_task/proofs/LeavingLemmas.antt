-- A storage file or an instance that is removed leaves to other tasks what is theirs.
use Rattle.purge_task.proofs.Common.{◌≡◌, ◌≢◌, ◌≤◌, ◌<◌, ◌+◌, ◌==◌, ◌&&◌, ℕ, Bool, true, false, not, List, [], ◌∷◌, ◌++◌, length, Option, Some, All, refl, sym, ◌∙◌, ap, subst, arith, inl, inr, filter, if◌then◌else◌, option_map, option_and_then, cases_eq, cases_Bool, append-nil, All-cons}
use Rattle.purge_task.proofs.Common.{All-contains, All-filter, All-head, All-nil, All-tail, DiskState, History, SameButFor, reading, FileName, between-map, between-on, InstRow, InstId, MapRecord, record_at, found_one, text_yes, files_of, HasDrawnNumber, has_id, holders_in, without_instance}
use Rattle.purge_task.proofs.Common.{instance_file, KnownInstance, same_id, with_pins, MailFile, file-without, KeepsFirm, KeepsInstances, AreElsewhere, IsKnownRow, StoreValue, kept_same, Claims, Held, HasRegionOctets, HaveSameInstances, IsSameOrSynced, LeavesOthers, LeavesRecord, MayOnlyGrow}
use Rattle.purge_task.proofs.Common.{OnlyGrows, OthersTook, unraised_same, instance_kept, none_placed}
use Rattle.disk_model.specs.declared.name.FileName.TheVariants as file
use Rattle.mdbox_base.specs.declared.ids.Hash.{Hash}
use Rattle.mdbox_base.specs.declared.ids.StoreId.{StoreId}
use Rattle.sis_store.specs.Comparing.{IsUnlikeCompared}
use Rattle.sis_store.specs.Instances.{is_id_past, is_of_kind}
use Rattle.store_core.specs.Removing.{NameOthers}
use Rattle.store_core.specs.StoreInstances.{IsFirstKnown, IsOtherThan}
use Rattle.store_core.proofs.InstanceKeepingLemmas.{reads_placed}
use Rattle.task_claims.specs.Leaving.{LeavesFile, LeavesInstance}
use Rattle.task_claims.proofs.GoneLemmas.{gone_stays}
use Rattle.purge_task.proofs.InstanceSeenLemmas.{other_with, without_it}
use Rattle.purge_task.proofs.RemovalSeenLemmas.{without}

abbrev ButFor : FileName → DiskState → DiskState → Type 0
ButFor name a b = (other : FileName) → other ≢ name → b other ≡ a other

mail_apart : (n : ℕ) (h i : List ℕ) → file.Mail n ≢ file.Inst h i
mail_apart n h i e = cc e

inst_apart : (n : ℕ) (h i : List ℕ) → file.Inst h i ≢ file.Mail n
inst_apart n h i e = cc e

mails_apart : (n m : ℕ) → n ≢ m → file.Mail n ≢ file.Mail m
mails_apart n m apart e = apart (let k : n ≡ m = cc e in k)

ids_apart : (h i g j : List ℕ) → i ≢ j → file.Inst h i ≢ file.Inst g j
ids_apart h i g j apart e = apart (let k : i ≡ j = cc e in k)

itself : (row : MapRecord) → row ≡ record row { count = row.count; file = row.file; offset = row.offset }
itself row = refl

-- ---- a storage file

record_left : {D : Type 0} → (uid : ℕ) (row : MapRecord) (n : ℕ) (old new : StoreValue D) (before after : Option History) → new.map ≡ old.map → SameButFor (file.Mail n) before after → row.file ≢ n → record_at old.map uid ≡ Some row → LeavesRecord uid row new before after
record_left uid row n old new before after map same apart there = record {
  now = row;
  there = ap (λ m. record_at m uid) map ∙ there;
  is_same = itself row;
  region = between-map (ButFor (file.Mail n)) (λ a b. (octets : List ℕ) → HasRegionOctets (files_of a) row octets → HasRegionOctets (files_of b) row octets) before after
      (λ a b s octets h. record { there = h.there; in_file = ap reading (s (file.Mail row.file) (mails_apart row.file n apart)) ∙ h.in_file; inside = h.inside; same = h.same }) same;
  instances = between-map (ButFor (file.Mail n)) (λ a b. HaveSameInstances row.instances (files_of a) (files_of b)) before after (λ a b s. each a b s row.instances) same;
}
  where
    each : (a b : DiskState) → ButFor (file.Mail n) a b → (rows : List InstRow) → HaveSameInstances rows (files_of a) (files_of b)
    each a b s [] = All-nil _
    each a b s (i ∷ rows) = All-cons (λ (x : InstRow). (octets : List ℕ) → files_of a (instance_file x) ≡ Some octets → files_of b (instance_file x) ≡ Some octets) i rows
        (λ octets is. ap reading (s (instance_file i) (inst_apart n i.hash.0 i.id.0)) ∙ is) (each a b s rows)

file_left : {D : Type 0} → (number n : ℕ) (disk : D) (old : StoreValue D) (before after : Option History) → number ≢ n → SameButFor (file.Mail n) before after → LeavesFile number old (without n disk old) before after
file_left number n disk old before after apart same = record {
  known = ap (λ (o : Option MailFile). option_map (with_pins 0) o) (file-without n number old.files.files apart);
  records = refl;
  guids = λ guid of all. all;
  state = between-map (ButFor (file.Mail n)) (λ a b. IsSameOrSynced (a (file.Mail number)) (b (file.Mail number))) before after (λ a b s. inl (s (file.Mail number) (mails_apart number n apart))) same;
}

stays : (n : ℕ) → n ≤ n
stays n = omega arith

file_grows : {D : Type 0} → (number n : ℕ) (disk : D) (old : StoreValue D) (before after : Option History) → number ≢ n → SameButFor (file.Mail n) before after → OnlyGrows number old (without n disk old) before after
file_grows number n disk old before after apart same = record {
  there = λ end is. (end, ap (λ (o : Option MailFile). option_and_then (λ f. f.end) o) (file-without n number old.files.files apart) ∙ is, stays end);
  reads = between-map (ButFor (file.Mail n)) (λ a b. (octets : List ℕ) → reading (a (file.Mail number)) ≡ Some octets → (more : List ℕ) × (reading (b (file.Mail number)) ≡ Some (octets ++ more))) before after
      (λ a b s octets is. ([], ap reading (s (file.Mail number) (mails_apart number n apart)) ∙ (is ∙ ap Some (sym (append-nil octets))))) same;
}

-- A file in which no record lies, and which no other task has taken or pinned.
pub removal_leaves : {D : Type 0} → (mine : Claims) (n : ℕ) (disk : D) (old : StoreValue D) (before after : Option History) → AreElsewhere n old.map.records → (OthersTook mine old n → ⊥) → (MayOnlyGrow mine old n → ⊥) → SameButFor (file.Mail n) before after → KeepsFirm old (without n disk old) before after
    → LeavesOthers mine old (without n disk old) before after
removal_leaves mine n disk old before after elsewhere untaken ungrown same firm =
    let new : StoreValue _ = without n disk old in
    let keeps : KeepsInstances old new before after = kept_same old new before after refl (reads_placed n before after same) firm in
    record {
      records = λ uid row more there. record_left uid row n old new before after refl same (All-contains (λ (r : MapRecord). r.file ≢ n) old.map.records row elsewhere (found_one (λ (r : MapRecord). r.uid == uid) old.map.records row there).0) there;
      unlisted = λ uid row none found listed. (listed, refl);
      files = λ number took. elim (cases_eq number n) [
        | inl is ↦ absurd (untaken (subst (λ (i : ℕ). OthersTook mine old i) is took))
        | inr apart ↦ file_left number n disk old before after apart same
      ];
      grow = λ number may. elim (cases_eq number n) [
        | inl is ↦ absurd (ungrown (subst (λ (i : ℕ). MayOnlyGrow mine old i) is may))
        | inr apart ↦ file_grows number n disk old before after apart same
      ];
      instances = λ row known more. instance_kept row old new before after keeps known;
      unraised = unraised_same old.map old.map refl;
      store = refl;
      numbers = none_placed old.instances;
      mailboxes = stays old.map.highest.mailbox;
      end = stays old.map_log.end;
      names = inl (λ name number is. is);
      gone = gone_stays old new refl refl (stays old.map.highest.mailbox);
      compared = keeps.compared;
      firm = firm;
      uids = λ number uid held k. record { given = k.given; below = k.below; same = k.same };
      room = stays old.map_log.room;
      told = between-map (ButFor (file.Mail n)) (λ a b. Unit {0}) before after (λ a b s. tt) same;
    }

-- ---- an instance

filter_fewer : {X : Type 0} → (p : X → Bool) (xs : List X) → length (filter p xs) ≤ length xs
filter_fewer p [] = omega arith
filter_fewer p (x ∷ xs) = by_test (p x) (filter_fewer p xs)
  where
    by_test : (b : Bool) → length (filter p xs) ≤ length xs → length (if b then x ∷ filter p xs else filter p xs) ≤ length (x ∷ xs)
    by_test true l = omega (arith, l)
    by_test false l = omega (arith, l)

-- some pass two tests, and no more than pass one
both_fewer : {X : Type 0} → (p q : X → Bool) (xs : List X) → length (filter p (filter q xs)) ≤ length (filter p xs)
both_fewer p q [] = omega arith
both_fewer p q (x ∷ xs) = by_tests (q x) (p x) refl (both_fewer p q xs)
  where
    by_tests : (a b : Bool) → p x ≡ b → length (filter p (filter q xs)) ≤ length (filter p xs) → length (filter p (if a then x ∷ filter q xs else filter q xs)) ≤ length (if p x then x ∷ filter p xs else filter p xs)
    by_tests true true e l = subst (λ (b : Bool). length (if b then x ∷ filter p (filter q xs) else filter p (filter q xs)) ≤ length (if b then x ∷ filter p xs else filter p xs)) (sym e) (let k : length (filter p (filter q xs)) + 1 ≤ length (filter p xs) + 1 = omega (arith, l) in omega (arith, k))
    by_tests true false e l = subst (λ (b : Bool). length (if b then x ∷ filter p (filter q xs) else filter p (filter q xs)) ≤ length (if b then x ∷ filter p xs else filter p xs)) (sym e) l
    by_tests false true e l = subst (λ (b : Bool). length (filter p (filter q xs)) ≤ length (if b then x ∷ filter p xs else filter p xs)) (sym e) (omega (arith, l))
    by_tests false false e l = subst (λ (b : Bool). length (filter p (filter q xs)) ≤ length (if b then x ∷ filter p xs else filter p xs)) (sym e) l

gone_record : {D : Type 0} → (uid : ℕ) (row : MapRecord) (k : KnownInstance) (disk : D) (old : StoreValue D) (before after : Option History) → NameOthers k.row.id.0 old.map.records → SameButFor (instance_file k.row) before after → record_at old.map uid ≡ Some row → LeavesRecord uid row (without_it k.row.id disk old) before after
gone_record uid row k disk old before after others same there = record {
  now = row;
  there = there;
  is_same = itself row;
  region = between-map (ButFor (instance_file k.row)) (λ a b. (octets : List ℕ) → HasRegionOctets (files_of a) row octets → HasRegionOctets (files_of b) row octets) before after
      (λ a b s octets h. record { there = h.there; in_file = ap reading (s (file.Mail row.file) (mail_apart row.file k.row.hash.0 k.row.id.0)) ∙ h.in_file; inside = h.inside; same = h.same }) same;
  instances = between-map (ButFor (instance_file k.row)) (λ a b. HaveSameInstances row.instances (files_of a) (files_of b)) before after
      (λ a b s. each a b s row.instances (All-contains (λ (r : MapRecord). All (λ inst. inst.id.0 ≢ k.row.id.0) r.instances) old.map.records row others (found_one (λ (r : MapRecord). r.uid == uid) old.map.records row there).0)) same;
}
  where
    each : (a b : DiskState) → ButFor (instance_file k.row) a b → (rows : List InstRow) → All (λ inst. inst.id.0 ≢ k.row.id.0) rows → HaveSameInstances rows (files_of a) (files_of b)
    each a b s [] h = All-nil _
    each a b s (i ∷ rows) h = All-cons (λ (x : InstRow). (octets : List ℕ) → files_of a (instance_file x) ≡ Some octets → files_of b (instance_file x) ≡ Some octets) i rows
        (λ octets is. ap reading (s (instance_file i) (ids_apart i.hash.0 i.id.0 k.row.hash.0 k.row.id.0 (All-head (λ (x : InstRow). x.id.0 ≢ k.row.id.0) i rows h))) ∙ is) (each a b s rows (All-tail (λ (x : InstRow). x.id.0 ≢ k.row.id.0) i rows h))

-- each that stays has another id
stay_apart : (id : InstId) (known : List KnownInstance) → All (λ k. k.row.id.0 ≢ id.0) (without_instance id known)
stay_apart id [] = All-nil _
stay_apart id (k ∷ known) = elim (cases_Bool (has_id id k)) [
  | inl is ↦ subst (λ (b : Bool). All (λ (x : KnownInstance). x.row.id.0 ≢ id.0) (if not b then k ∷ without_instance id known else without_instance id known)) (sym is) (stay_apart id known)
  | inr isnt ↦ subst (λ (b : Bool). All (λ (x : KnownInstance). x.row.id.0 ≢ id.0) (if not b then k ∷ without_instance id known else without_instance id known)) (sym isnt)
      (All-cons (λ (x : KnownInstance). x.row.id.0 ≢ id.0) k (without_instance id known) (λ same. let e : true ≡ false = sym (text_yes k.row.id.0 id.0 same) ∙ isnt in cc e) (stay_apart id known))
]

gone_instance : {D : Type 0} → (row : InstRow) (k : KnownInstance) (disk : D) (old : StoreValue D) (before after : Option History) → row.id.0 ≢ k.row.id.0 → SameButFor (instance_file k.row) before after → IsKnownRow old.instances.known row → LeavesInstance row old (without_it k.row.id disk old) before after
gone_instance row k disk old before after apart same known = record {
  known = ap (λ (o : Option KnownInstance). option_map (λ k. k.row) o) (other_with k.row.id row.id old.instances.known (λ e. apart (ap (λ (i : InstId). i.0) e))) ∙ known;
  reads = between-map (ButFor (instance_file k.row)) (λ a b. reading (b (instance_file row)) ≡ reading (a (instance_file row))) before after (λ a b s. ap reading (s (instance_file row) (ids_apart row.hash.0 row.id.0 k.row.hash.0 k.row.id.0 apart))) same;
  first = between-map (ButFor (instance_file k.row)) (λ a b. IsFirstKnown old.instances.known a row → IsFirstKnown (without_instance k.row.id old.instances.known) b row) before after (λ a b s f. others a b s (without_instance k.row.id old.instances.known) (stay_apart k.row.id old.instances.known) (All-filter (λ (j : KnownInstance). not (has_id k.row.id j)) (λ (j : KnownInstance). IsOtherThan a row j.row) old.instances.known f)) same;
}
  where
    others : (a b : DiskState) → ButFor (instance_file k.row) a b → (js : List KnownInstance) → All (λ j. j.row.id.0 ≢ k.row.id.0) js → All (λ j. IsOtherThan a row j.row) js → All (λ j. IsOtherThan b row j.row) js
    others a b s [] h f = All-nil _
    others a b s (j ∷ js) h f = All-cons (λ (x : KnownInstance). IsOtherThan b row x.row) j js
        (λ kind before_it same_octets. All-head (λ (x : KnownInstance). IsOtherThan a row x.row) j js f kind before_it
        (sym (ap reading (s (instance_file j.row) (ids_apart j.row.hash.0 j.row.id.0 k.row.hash.0 k.row.id.0 (All-head (λ (x : KnownInstance). x.row.id.0 ≢ k.row.id.0) j js h)))) ∙ (same_octets ∙ ap reading (s (instance_file row) (ids_apart row.hash.0 row.id.0 k.row.hash.0 k.row.id.0 apart)))))
        (others a b s js (All-tail (λ (x : KnownInstance). x.row.id.0 ≢ k.row.id.0) j js h) (All-tail (λ (x : KnownInstance). IsOtherThan a row x.row) j js f))

-- what was compared without success stays so
abbrev Unlike : StoreId → Hash → ℕ → List ℕ → Option InstId → ℕ → List KnownInstance → DiskState → Type 0
Unlike store hash size octets last drawn js now = All (λ j. is_of_kind hash size j.row ≡ true → is_id_past last j.row.id ≡ false → HasDrawnNumber store drawn j.row.id → reading (now (instance_file j.row)) ≢ Some octets) js

still_unlike : (store : StoreId) (hash : Hash) (size : ℕ) (octets : List ℕ) (last : Option InstId) (drawn : ℕ) (row : InstRow) (a b : DiskState) → ButFor (instance_file row) a b → (js : List KnownInstance) → All (λ j. j.row.id.0 ≢ row.id.0) js → Unlike store hash size octets last drawn js a → Unlike store hash size octets last drawn js b
still_unlike store hash size octets last drawn row a b s [] h u = All-nil _
still_unlike store hash size octets last drawn row a b s (j ∷ js) h u =
    All-cons (λ (x : KnownInstance). is_of_kind hash size x.row ≡ true → is_id_past last x.row.id ≡ false → HasDrawnNumber store drawn x.row.id → reading (b (instance_file x.row)) ≢ Some octets) j js
    (λ kind past number reads. All-head (λ (x : KnownInstance). is_of_kind hash size x.row ≡ true → is_id_past last x.row.id ≡ false → HasDrawnNumber store drawn x.row.id → reading (a (instance_file x.row)) ≢ Some octets) j js u kind past number
    (sym (ap reading (s (instance_file j.row) (ids_apart j.row.hash.0 j.row.id.0 row.hash.0 row.id.0 (All-head (λ (x : KnownInstance). x.row.id.0 ≢ row.id.0) j js h)))) ∙ reads))
    (still_unlike store hash size octets last drawn row a b s js (All-tail (λ (x : KnownInstance). x.row.id.0 ≢ row.id.0) j js h)
    (All-tail (λ (x : KnownInstance). is_of_kind hash size x.row ≡ true → is_id_past last x.row.id ≡ false → HasDrawnNumber store drawn x.row.id → reading (a (instance_file x.row)) ≢ Some octets) j js u))

compared_still : (store : StoreId) (hash : Hash) (size : ℕ) (octets : List ℕ) (last : Option InstId) (drawn : ℕ) (row : InstRow) (known : List KnownInstance) (old new : Option History) → SameButFor (instance_file row) old new → IsUnlikeCompared store hash size octets last drawn known old
    → IsUnlikeCompared store hash size octets last drawn (without_instance row.id known) new
compared_still store hash size octets last drawn row known old new same u =
    between-on (ButFor (instance_file row)) (Unlike store hash size octets last drawn known) (Unlike store hash size octets last drawn (without_instance row.id known)) old new
    (λ a b s p. still_unlike store hash size octets last drawn row a b s (without_instance row.id known) (stay_apart row.id known)
    (All-filter (λ (j : KnownInstance). not (has_id row.id j)) (λ (j : KnownInstance). is_of_kind hash size j.row ≡ true → is_id_past last j.row.id ≡ false → HasDrawnNumber store drawn j.row.id → reading (a (instance_file j.row)) ≢ Some octets) known p)) same u

-- An instance that nobody holds and no record names.
pub gone_leaves : {D : Type 0} → (mine : Claims) (k : KnownInstance) (disk : D) (old : StoreValue D) (before after : Option History) → holders_in k.row.id old.instances.known ≡ 0 → NameOthers k.row.id.0 old.map.records → SameButFor (instance_file k.row) before after → KeepsFirm old (without_it k.row.id disk old) before after
    → LeavesOthers mine old (without_it k.row.id disk old) before after
gone_leaves mine k disk old before after none others same firm = record {
  records = λ uid row more there. gone_record uid row k disk old before after others same there;
  unlisted = λ uid row free found listed. (listed, refl);
  files = λ number took. record {
    known = refl;
    records = refl;
    guids = λ guid of all. all;
    state = between-map (ButFor (instance_file k.row)) (λ a b. IsSameOrSynced (a (file.Mail number)) (b (file.Mail number))) before after (λ a b s. inl (s (file.Mail number) (mail_apart number k.row.hash.0 k.row.id.0))) same;
  };
  grow = λ number may. record {
    there = λ end is. (end, is, stays end);
    reads = between-map (ButFor (instance_file k.row)) (λ a b. (octets : List ℕ) → reading (a (file.Mail number)) ≡ Some octets → (more : List ℕ) × (reading (b (file.Mail number)) ≡ Some (octets ++ more))) before after
        (λ a b s octets is. ([], ap reading (s (file.Mail number) (mail_apart number k.row.hash.0 k.row.id.0)) ∙ (is ∙ ap Some (sym (append-nil octets))))) same;
  };
  instances = λ row known more. gone_instance row k disk old before after (λ e. let l : mine (Held row.id) < holders_in row.id old.instances.known = more in let z : holders_in row.id old.instances.known ≡ 0 = ap (λ (i : InstId). holders_in i old.instances.known) (same_id row.id k.row.id e) ∙ none in omega (arith, l, z)) same known;
  unraised = unraised_same old.map old.map refl;
  store = refl;
  numbers = record {
    drawn = stays old.instances.highest;
    few = let l = filter_fewer (λ (j : KnownInstance). not (has_id k.row.id j)) old.instances.known in omega (arith, l);
    candidates = λ drawn hash size after_id. both_fewer (λ (j : KnownInstance). is_of_kind hash size j.row && is_id_past after_id j.row.id) (λ (j : KnownInstance). not (has_id k.row.id j)) old.instances.known;
    last = λ some. absurd (some refl);
  };
  mailboxes = stays old.map.highest.mailbox;
  end = stays old.map_log.end;
  names = inl (λ name number is. is);
  gone = gone_stays old (without_it k.row.id disk old) refl refl (stays old.map.highest.mailbox);
  compared = λ hash size octets last drawn le. compared_still old.instances.store hash size octets last drawn k.row old.instances.known before after same;
  firm = firm;
  uids = λ number uid held x. record { given = x.given; below = x.below; same = x.same };
  room = stays old.map_log.room;
  told = between-map (ButFor (instance_file k.row)) (λ a b. Unit {0}) before after (λ a b s. tt) same;
}
