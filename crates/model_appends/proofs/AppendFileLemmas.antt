-- Files that differ in one log alone.
use Rattle.model_appends.proofs.Common.{◌≡◌, ◌≢◌, ℕ, take, drop, true, false, cond, Bool, if◌then◌else◌, List, [], ◌∷◌, ◌++◌, map, Option, Some, All, refl, sym, ◌∙◌, subst, ap, arith, All-nil, All-cons, Files, same_name, same_name-true, same_name-apart, FileName, InstRow, MapRecord, MapBox}
use Rattle.model_appends.proofs.Common.{MapMeaning, StoresMessage, HasOneMore, SameBut, CarryOver, CarriesOver}
use Rattle.std.proofs.lemmas.List.{map-append}
use Rattle.model_logs.specs.LogFile.{IsLogFile}
use Rattle.model_store.proofs.SettledLemmas.{log_in}
use Rattle.disk_model.proofs.NameLemmas.{same_name-refl, same_name-false}
use Rattle.disk_model.specs.declared.name.FileName.TheVariants as file
use Rattle.model_logs.specs.declared.log_head.LogHead.{LogHead}
use Rattle.model_storage.specs.StorageFile.{IsMessage}
use Rattle.model_store.specs.Stands.{HasLog, HasInstances, NameInstances, HoldsMessage}
use Rattle.model_store.specs.Settled.{IsSameRegion}
use Rattle.model_store.specs.Carrying.{HasSameEntries}
use Rattle.model_store.proofs.CarryingLemmas.{each_name}

-- the second files, but with this log as the first have it
pub mixed : FileName → Files → Files → Files
mixed log a b = λ name. if same_name name log then a name else b name

pub mixed-here : (log : FileName) (a b : Files) → mixed log a b log ≡ a log
unfolding mixed
mixed-here log a b = ap (λ (t : Bool). cond t (a log) (b log)) (same_name-refl log)

pub mixed-other : (log name : FileName) (a b : Files) → name ≢ log → mixed log a b name ≡ b name
unfolding mixed
mixed-other log name a b apart = ap (λ (t : Bool). cond t (a name) (b name)) (same_name-false name log apart)

pub same_but_mixed : (log : FileName) (a b : Files) → SameBut log (mixed log a b) b
same_but_mixed log a b = λ name apart. sym (mixed-other log name a b apart)

-- but for the log the second files carry over what the first have; with the log of the first they carry over all
pub carry_mixed : (log : FileName) (g : ℕ) (m : MapMeaning) (a b : Files) → CarriesOver g m a log (a log) → ((name : FileName) → name ≢ log → CarriesOver g m a name (b name)) → CarryOver g m a (mixed log a b)
carry_mixed log g m a b here others = each_name g m a (mixed log a b) (λ name. by_test (same_name name log) name refl)
  where
    by_test : (t : Bool) (name : FileName) → same_name name log ≡ t → CarriesOver g m a name (mixed log a b name)
    by_test true name e =
        let is : name ≡ log = same_name-true name log e in
        subst (λ (n : FileName). CarriesOver g m a n (mixed log a b n)) (sym is) (subst (λ (o : Option (List ℕ)). CarriesOver g m a log o) (sym (mixed-here log a b)) here)
    by_test false name e =
        let apart : name ≢ log = same_name-apart name log e in
        subst (λ (o : Option (List ℕ)). CarriesOver g m a name o) (sym (mixed-other log name a b apart)) (others name apart)

all_of : {X : Type 0} → (P : X → Type 0) → ((x : X) → P x) → (xs : List X) → All P xs
all_of P f [] = All-nil P
all_of P f (x ∷ xs) = All-cons P x xs (f x) (all_of P f xs)

pub box_itself : (k h g : ℕ) (m : MapMeaning) (a : Files) → CarriesOver g m a (file.Box k h) (a (file.Box k h))
box_itself k h g m a = all_of (λ (box : MapBox). box.number ≡ k → box.generation ≡ h → HasSameEntries (a (file.Box k h)) (a (file.Box k h))) (λ box p q head entries l. l) m.boxes

pub map_itself : (h g : ℕ) (m : MapMeaning) (a : Files) → CarriesOver g m a (file.Map h) (a (file.Map h))
map_itself h g m a = λ e head entries l. l

-- what carries over depends on what the first files have there alone
pub carries_from : (g : ℕ) (m : MapMeaning) (c a : Files) (name : FileName) (left : Option (List ℕ)) → c name ≡ a name → CarriesOver g m a name left → CarriesOver g m c name left
carries_from g m c a file.Root left e h = subst (λ (o : Option (List ℕ)). HasSameEntries o left) (sym e) h
carries_from g m c a (file.Map k) left e h = λ p. subst (λ (o : Option (List ℕ)). HasSameEntries o left) (sym e) (h p)
carries_from g m c a (file.Box k l) left e h = subst (λ (o : Option (List ℕ)). All (λ (box : MapBox). box.number ≡ k → box.generation ≡ l → HasSameEntries o left) m.boxes) (sym e) h
carries_from g m c a (file.Mail n) left e h = subst (λ (o : Option (List ℕ)). All (λ (row : MapRecord). row.file ≡ n → IsSameRegion o left row) m.records) (sym e) h
carries_from g m c a (file.Inst hash id) left e h = subst (λ (o : Option (List ℕ)). All (λ (row : MapRecord). All (λ (inst : InstRow). inst.hash.0 ≡ hash → inst.id.0 ≡ id → left ≡ o) row.instances) m.records) (sym e) h

-- ---- what is stored stays

-- storage files and instances are the same
pub record SameStored (a b : Files) : Type 0 where
  pub mails : (n : ℕ) → b (file.Mail n) ≡ a (file.Mail n)
  pub instances : (hash id : List ℕ) → b (file.Inst hash id) ≡ a (file.Inst hash id)

pub stored_back : (a b : Files) → SameStored a b → SameStored b a
stored_back a b s = record { mails = λ n. sym (s.mails n); instances = λ hash id. sym (s.instances hash id) }

pub box_stored : (k h : ℕ) (a b : Files) → SameBut (file.Box k h) a b → SameStored a b
box_stored k h a b s = record { mails = λ n. s (file.Mail n) (λ e. absurd (cc e)); instances = λ hash id. s (file.Inst hash id) (λ e. absurd (cc e)) }

pub map_stored : (h : ℕ) (a b : Files) → SameBut (file.Map h) a b → SameStored a b
map_stored h a b s = record { mails = λ n. s (file.Mail n) (λ e. absurd (cc e)); instances = λ hash id. s (file.Inst hash id) (λ e. absurd (cc e)) }

-- the same record but for its count
pub record SameButCount (a b : MapRecord) : Type 0 where
  pub uid : b.uid ≡ a.uid
  pub origin : b.origin ≡ a.origin
  pub file : b.file ≡ a.file
  pub offset : b.offset ≡ a.offset
  pub size : b.size ≡ a.size
  pub guid : b.guid ≡ a.guid
  pub instances : b.instances ≡ a.instances

pub count_itself : (a : MapRecord) → SameButCount a a
count_itself a = record { uid = refl; origin = refl; file = refl; offset = refl; size = refl; guid = refl; instances = refl }

pub count_back : (a b : MapRecord) → SameButCount a b → SameButCount b a
count_back a b s = record { uid = sym s.uid; origin = sym s.origin; file = sym s.file; offset = sym s.offset; size = sym s.size; guid = sym s.guid; instances = sym s.instances }

pub instances_same : (a b : Files) (rows : List InstRow) (octets : List (List ℕ)) → SameStored a b → HasInstances a rows octets → HasInstances b rows octets
instances_same a b [] [] s h = tt
instances_same a b [] (o ∷ os) s h = absurd h
instances_same a b (r ∷ rows) [] s h = absurd h
instances_same a b (r ∷ rows) (o ∷ os) s h = (s.instances r.hash.0 r.id.0 ∙ h.0, instances_same a b rows os s h.1)

-- a record's region is the same message
unfoldable pub message_as : (a b : Files) (row other : MapRecord) → SameStored a b → SameButCount row other → HoldsMessage a row → HoldsMessage b other
message_as a b row other s same h = record {
  octets_there = h.octets_there;
  message = h.message;
  meta = h.meta;
  there = s.mails other.file ∙ ap (λ (n : ℕ). a (file.Mail n)) same.file ∙ h.there;
  inside = let e = same.offset in let f = same.size in let i = h.inside in omega (arith, e, f, i);
  region = subst (λ (n : ℕ). IsMessage (take n (drop other.offset h.octets_there)) h.message) (sym same.size) (subst (λ (n : ℕ). IsMessage (take row.size (drop n h.octets_there)) h.message) (sym same.offset) h.region);
  says = h.says;
  guid = h.guid ∙ ap (λ (g : List ℕ). Some (record { 0 = g })) (sym same.guid);
}

-- a record stores the same text
unfoldable pub kept_as : (a b : Files) (row other : MapRecord) (octets : List ℕ) → SameStored a b → SameButCount row other → StoresMessage a row octets → StoresMessage b other octets
unfolding message_as
kept_as a b row other octets s same h = record {
  stored = message_as a b row other s same h.stored;
  instances = h.instances;
  names = subst (λ (rows : List InstRow). NameInstances h.stored.meta.refs rows) (sym same.instances) h.names;
  found = subst (λ (rows : List InstRow). HasInstances b rows h.instances) (sym same.instances) (instances_same a b row.instances h.instances s h.found);
  whole = h.whole;
  size = h.size;
}

-- ---- one entry more in a log

more_in : (text : List ℕ) (a b : Files) (name : FileName) (head : LogHead) (entries : List (List ℕ)) → HasOneMore text (a name) (b name) → HasLog a name head entries → HasLog b name head (entries ++ text ∷ [])
more_in text a b name head entries more h =
    let found = log_in (b name) head (entries ++ text ∷ []) (more head entries (subst (λ (o : Option (List ℕ)). IsLogFile o head entries) (sym h.there) h.whole)) in
    record { octets = found.0; there = found.1; whole = found.2 }

pub log_more : {E : Type 0} → (text : E → List ℕ) (a b : Files) (name : FileName) (head : LogHead) (entries : List E) (e : E) → HasOneMore (text e) (a name) (b name) → HasLog a name head (map text entries) → HasLog b name head (map text (entries ++ e ∷ []))
log_more text a b name head entries e more h =
    subst (λ (texts : List (List ℕ)). HasLog b name head texts) (sym (map-append text entries (e ∷ []))) (more_in (text e) a b name head (map text entries) more h)

pub log_as : (a b : Files) (name : FileName) (head : LogHead) (entries : List (List ℕ)) → b name ≡ a name → HasLog a name head entries → HasLog b name head entries
log_as a b name head entries e h = record { octets = h.octets; there = e ∙ h.there; whole = h.whole }

-- with the log of the second files, the first carry over to them
pub carry_back : (h g : ℕ) (m : MapMeaning) (a b : Files) → ((name : FileName) → name ≢ file.Map h → CarriesOver g m a name (b name)) → CarryOver g m (mixed (file.Map h) b a) b
carry_back h g m a b others = each_name g m (mixed (file.Map h) b a) b (λ name. by_test (same_name name (file.Map h)) name refl)
  where
    by_test : (t : Bool) (name : FileName) → same_name name (file.Map h) ≡ t → CarriesOver g m (mixed (file.Map h) b a) name (b name)
    by_test true name e =
        let is : name ≡ file.Map h = same_name-true name (file.Map h) e in
        subst (λ (n : FileName). CarriesOver g m (mixed (file.Map h) b a) n (b n)) (sym is) (λ p. subst (λ (o : Option (List ℕ)). HasSameEntries o (b (file.Map h))) (sym (mixed-here (file.Map h) b a)) (λ head entries l. l))
    by_test false name e =
        let apart : name ≢ file.Map h = same_name-apart name (file.Map h) e in
        carries_from g m (mixed (file.Map h) b a) a name (b name) (mixed-other (file.Map h) name b a apart) (others name apart)
