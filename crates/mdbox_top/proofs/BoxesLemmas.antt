-- How `boxes` ends.
use Rattle.std.specs.Prelude.{◌≡◌, ◌⊎◌, ◌<◌, ◌+◌, ◌==◌, ◌++◌, ℕ, List, [], ◌∷◌, All, AllPairs, find, length, map, slice_get, take, Option, Some, None, Result, Ok, Err, IfOk}
use Rattle.std.specs.Option.{option_map}
use Rattle.std.proofs.Common.{zero, suc, refl, sym, ◌∙◌, ap, subst, inl, inr, arith}
use Rattle.std.proofs.lemmas.Bool.{cond-true, cond-false, eq-eqb, ne_eqb}
use Rattle.std.proofs.lemmas.List.{take_more}
use Rattle.std.proofs.lemmas.List.Elements.{All-head, All-tail}
use Rattle.std.proofs.lemmas.Option.{get_or_from_slice_get, slice_get_within}
use Rattle.disk_model.specs.Disk.{History, Faults}
use Rattle.disk_model.specs.FaultCounts.{NoFault, AnyFaultCounted}
use Rattle.map_index.specs.Shown.{shown_box}
use Rattle.map_index.specs.declared.rows.BoxAt.{BoxAt}
use Rattle.mail_ops.proofs.CountingLemmas.{found_there}
use Rattle.mail_ops.proofs.FlagListLemmas.{some_there}
use Rattle.mail_ops.proofs.MessageLemmas.{store_is_sound}
use Rattle.model_lists.specs.Lists.{Lists, Mailbox, listing_row}
use Rattle.model_meaning.specs.BoxMeaning.{BoxMeaning}
use Rattle.model_meaning.specs.MapMeaning.{MapBox, MapMeaning, box_at}
use Rattle.model_octets.proofs.PairLemmas.{pairs_head, pairs_tail}
use Rattle.model_store.specs.Listing.{ShowLists, ShowsMailbox, listed_row}
use Rattle.model_store.specs.Settled.{IsSettledFor}
use Rattle.request_text.specs.Outcomes.{status_of}
use Rattle.request_text.specs.declared.boxes.BoxRow.{BoxRow}
use Rattle.request_text.specs.declared.outcome.InputRefusal.{InputRefusal}
use Rattle.request_text.specs.declared.outcome.StoreRefusal.{StoreRefusal}
use Rattle.request_text.specs.declared.outcome.Outcome.{Outcome}
use Rattle.request_text.specs.declared.outcome.Outcome.TheVariants as outcome
use Rattle.store_core.specs.Running.{IsStore}
use Rattle.store_core.specs.Value.{StoreValue, indexes_of, list_numbered}
use Rattle.store_open.specs.declared.error.OpenError.{OpenError}
use Rattle.script_run.specs.Opening.{IsUnopened}
use Rattle.mdbox_top.specs.BoxesRun.{BoxesOutcome, BoxesRests, PrintsBoxes, box_rows, row_of_box, row_of_mailbox}
use Rattle.mdbox_top.specs.InputRun.{IsOneOf}
use Rattle.mdbox_top.specs.Numbers.{box_octets}
use Rattle.mdbox_top.specs.OpeningOutcome.{opening_outcome}
use Rattle.mdbox_top.proofs.NumbersLemmas.{list_octets, same_octets}
use Rattle.mdbox_top.proofs.RequestLemmas.{damage_lacking, opening_number, refused_by, settled_opens}

-- ---- rows, place by place

same_fields : (n1 n2 x1 x2 m1 m2 o1 o2 : ℕ) (t1 t2 : List ℕ) → n1 ≡ n2 → x1 ≡ x2 → m1 ≡ m2 → o1 ≡ o2 → t1 ≡ t2
    → (let r : BoxRow = record { number = n1; next_uid = x1; messages = m1; octets = o1; name = t1 } in r) ≡ (let r : BoxRow = record { number = n2; next_uid = x2; messages = m2; octets = o2; name = t2 } in r)
same_fields n1 n2 x1 x2 m1 m2 o1 o2 t1 t2 e1 e2 e3 e4 e5 = rw (e1, e2, e3, e4, e5) refl

pub row_there : (boxes : List MapBox) (meanings : List BoxMeaning) (i : ℕ) (b : MapBox) (m : BoxMeaning) → slice_get boxes i ≡ Some b → slice_get meanings i ≡ Some m → slice_get (box_rows boxes meanings) i ≡ Some (row_of_box b m)
row_there [] meanings i b m p q = absurd (let k : None ≡ Some b = p in cc k)
row_there (x ∷ boxes) [] i b m p q = absurd (let k : None ≡ Some m = q in cc k)
row_there (x ∷ boxes) (y ∷ meanings) zero b m p q =
    let k : Some x ≡ Some b = p in
    let l : Some y ≡ Some m = q in
    let xb : x ≡ b = cc k in
    let ym : y ≡ m = cc l in
    rw (xb, ym) refl
row_there (x ∷ boxes) (y ∷ meanings) (suc i) b m p q = row_there boxes meanings i b m p q

pub as_many_rows : (boxes : List MapBox) (meanings : List BoxMeaning) → length meanings ≡ length boxes → length (box_rows boxes meanings) ≡ length boxes
as_many_rows [] meanings e = refl
as_many_rows (b ∷ boxes) [] e = absurd (omega (arith, e))
as_many_rows (b ∷ boxes) (m ∷ meanings) e =
    let rest = as_many_rows boxes meanings (omega (arith, e)) in
    omega (arith, rest)

-- the rows so far, and one more
pub row_more : (rows : List BoxRow) (i : ℕ) (row : BoxRow) → slice_get rows i ≡ Some row → take (i + 1) rows ≡ take i rows ++ row ∷ []
row_more rows i row is = take_more rows i row (slice_get_within rows i row is) ∙ ap (λ (x : BoxRow). take i rows ++ x ∷ []) (get_or_from_slice_get rows i row row is)

-- ---- the mailbox at a place of the map

abbrev pub BoxRises : MapBox → MapBox → Type 0
BoxRises a b = a.number < b.number

later_box : (x : MapBox) (xs : List MapBox) (i : ℕ) (b : MapBox) → All (BoxRises x) xs → slice_get xs i ≡ Some b → x.number < b.number
later_box x [] i b above is = absurd (let k : None ≡ Some b = is in cc k)
later_box x (y ∷ ys) zero b above is =
    let k : Some y ≡ Some b = is in
    let same : y ≡ b = cc k in
    subst (λ (o : MapBox). x.number < o.number) same (All-head (BoxRises x) y ys above)
later_box x (y ∷ ys) (suc i) b above is = later_box x ys i b (All-tail (BoxRises x) y ys above) is

box_found : (boxes : List MapBox) (i : ℕ) (b : MapBox) → AllPairs BoxRises boxes → slice_get boxes i ≡ Some b → find (λ x. x.number == b.number) boxes ≡ Some b
box_found [] i b rising is = absurd (let k : None ≡ Some b = is in cc k)
box_found (x ∷ xs) zero b rising is =
    let k : Some x ≡ Some b = is in
    let e : x ≡ b = cc k in
    cond-true (x.number == b.number) (Some x) (find (λ y. y.number == b.number) xs) (eq-eqb x.number b.number (ap (λ (o : MapBox). o.number) e)) ∙ ap Some e
box_found (x ∷ xs) (suc i) b rising is =
    let less : x.number < b.number = later_box x xs i b (pairs_head BoxRises x xs rising) is in
    cond-false (x.number == b.number) (Some x) (find (λ y. y.number == b.number) xs) (ne_eqb x.number b.number (λ e. omega (arith, less, e)))
    ∙ box_found xs i b (pairs_tail BoxRises x xs rising) is

-- it has the name that is found by its number
pub name_there : (boxes : List MapBox) (i : ℕ) (b : MapBox) (number : ℕ) (name : List ℕ) → AllPairs BoxRises boxes → slice_get boxes i ≡ Some b → number ≡ b.number → Some name ≡ option_map (λ x. x.name) (find (λ x. x.number == number) boxes) → name ≡ b.name
name_there boxes i b number name rising is same found =
    let k : Some name ≡ Some b.name = found ∙ ap (λ (n : ℕ). option_map (λ (x : MapBox). x.name) (find (λ x. x.number == n) boxes)) same ∙ ap (option_map (λ (x : MapBox). x.name)) (box_found boxes i b rising is) in
    cc k

pub no_name_there : (m : MapMeaning) (i : ℕ) (at : BoxAt) → AllPairs BoxRises m.boxes → Some at ≡ option_map shown_box (slice_get m.boxes i) → None ≡ option_map (λ b. b.name) (box_at m at.number.0) → ⊥
no_name_there m i at rising is none =
    let b = some_there shown_box (slice_get m.boxes i) at is in
    let k : None ≡ Some b.0.name = none ∙ ap (λ (a : BoxAt). option_map (λ (x : MapBox). x.name) (box_at m a.number.0)) b.2 ∙ ap (option_map (λ (x : MapBox). x.name)) (box_found m.boxes i b.0 rising b.1) in
    cc k

-- the map of the store, as two calls hand it out
pub no_name_in : {D : Type 0} → (history : Option History) (store : StoreValue D) (m n : MapMeaning) (i : ℕ) (at : BoxAt) → IsStore history store → m ≡ store.map → n ≡ store.map → Some at ≡ option_map shown_box (slice_get m.boxes i) → None ≡ option_map (λ b. b.name) (box_at n at.number.0) → ⊥
no_name_in history store m n i at s same also is none =
    no_name_there store.map i at (store_is_sound history store s).boxes_rising (is ∙ ap (λ (x : MapMeaning). option_map shown_box (slice_get x.boxes i)) same) (none ∙ ap (λ (x : MapMeaning). option_map (λ (b : MapBox). b.name) (box_at x at.number.0)) also)

-- the row of what is found by the number that the map tells at a place
row_found_there : {D : Type 0} → (history : Option History) (store : StoreValue D) (m n : MapMeaning) (i : ℕ) (at : BoxAt) (found : BoxMeaning) (name : List ℕ) → IsStore history store → m ≡ store.map → n ≡ store.map → Some at ≡ option_map shown_box (slice_get m.boxes i) → Some found ≡ list_numbered store at.number.0
    → Some name ≡ option_map (λ b. b.name) (box_at n at.number.0) → slice_get (box_rows store.map.boxes (indexes_of store.boxes)) i ≡ Some (let r : BoxRow = record { number = at.number.0; next_uid = found.next; messages = length found.rows; octets = box_octets found; name = name } in r)
row_found_there history store m n i at found name s same also is numbered named =
    let b = some_there shown_box (slice_get m.boxes i) at is in
    let here : slice_get store.map.boxes i ≡ Some b.0 = ap (λ (x : MapMeaning). slice_get x.boxes i) (sym same) ∙ b.1 in
    let number : at.number.0 ≡ b.0.number = ap (λ (a : BoxAt). a.number.0) b.2 in
    let named_is : name ≡ b.0.name = name_there store.map.boxes i b.0 at.number.0 name (store_is_sound history store s).boxes_rising here number (named ∙ ap (λ (x : MapMeaning). option_map (λ (y : MapBox). y.name) (box_at x at.number.0)) also) in
    row_there store.map.boxes (indexes_of store.boxes) i b.0 found here (sym (found_there history store m i at (Some found) s same is numbered))
    ∙ ap Some (sym (same_fields at.number.0 b.0.number found.next found.next (length found.rows) (length found.rows) (box_octets found) (box_octets found) name b.0.name number refl refl refl named_is))

pub found_row : {D E : Type 0} → (history : Option History) (store : StoreValue D) (m n : MapMeaning) (i : ℕ) (at : BoxAt) (found : BoxMeaning) (name : List ℕ) (r : Result BoxRow E) → IsStore history store → m ≡ store.map → n ≡ store.map → Some at ≡ option_map shown_box (slice_get m.boxes i) → Some found ≡ list_numbered store at.number.0
    → Some name ≡ option_map (λ b. b.name) (box_at n at.number.0) → IfOk r (λ row. row ≡ (let x : BoxRow = record { number = at.number.0; next_uid = found.next; messages = length found.rows; octets = box_octets found; name = name } in x)) → IfOk r (λ row. slice_get (box_rows store.map.boxes (indexes_of store.boxes)) i ≡ Some row)
found_row history store m n i at found name (Ok row) s same also is numbered named made = row_found_there history store m n i at found name s same also is numbered named ∙ ap Some (sym made)
found_row history store m n i at found name (Err e) s same also is numbered named made = tt

-- ---- what is shown

-- the row of a mailbox that is shown is that of the mailbox of the map
same_many : {X Y Z : Type 0} → (f : X → Z) (g : Y → Z) (xs : List X) (ys : List Y) → map f xs ≡ map g ys → length xs ≡ length ys
same_many f g [] [] e = refl
same_many f g [] (y ∷ ys) e = absurd (cc e)
same_many f g (x ∷ xs) [] e = absurd (cc e)
same_many f g (x ∷ xs) (y ∷ ys) e =
    let rest : map f xs ≡ map g ys = cc e in
    ap suc (same_many f g xs ys rest)

same_row : (b : MapBox) (m : BoxMeaning) (mailbox : Mailbox) → ShowsMailbox b m mailbox → row_of_box b m ≡ row_of_mailbox mailbox
same_row b m mailbox s =
    same_fields b.number mailbox.number m.next mailbox.next_uid (length m.rows) (length mailbox.messages) (box_octets m) (list_octets mailbox.messages) b.name mailbox.name (sym s.number) (sym s.next) (same_many listed_row listing_row m.rows mailbox.messages s.rows) (same_octets m.rows mailbox.messages s.rows) (sym s.name)

pub shown_rows : (boxes : List MapBox) (meanings : List BoxMeaning) (lists : Lists) → ShowLists boxes meanings lists → box_rows boxes meanings ≡ map row_of_mailbox lists
shown_rows [] [] [] h = refl
shown_rows [] [] (l ∷ ls) h = absurd h
shown_rows [] (m ∷ ms) [] h = absurd h
shown_rows [] (m ∷ ms) (l ∷ ls) h = absurd h
shown_rows (b ∷ bs) [] [] h = absurd h
shown_rows (b ∷ bs) [] (l ∷ ls) h = absurd h
shown_rows (b ∷ bs) (m ∷ ms) [] h = absurd h
shown_rows (b ∷ bs) (m ∷ ms) (l ∷ ls) h =
    ap (λ (row : BoxRow). row ∷ box_rows bs ms) (same_row b m l h.0) ∙ ap (λ (rows : List BoxRow). row_of_mailbox l ∷ rows) (shown_rows bs ms ls h.1)

-- ---- its end

-- the number of a printing
printed_number : (rows : List BoxRow) (h k : Option (List ℕ)) (o : Outcome) → PrintsBoxes rows h k o → IsOneOf (0 ∷ 5 ∷ 8 ∷ []) (status_of o)
printed_number rows h k outcome.Done s = inl refl
printed_number rows h k outcome.NoMemory s = inr (inl refl)
printed_number rows h k outcome.WriteFault s = inr (inr (inl refl))
printed_number rows h k outcome.No s = absurd s
printed_number rows h k outcome.Usage s = absurd s
printed_number rows h k outcome.SessionFull s = absurd s
printed_number rows h k outcome.DiskFault s = absurd s
printed_number rows h k outcome.ReadFault s = absurd s
printed_number rows h k (outcome.StoreRefused why) s = absurd s
printed_number rows h k (outcome.InputRefused why) s = absurd s

pub prints_no_fault_of_disk : (rows : List BoxRow) (h k : Option (List ℕ)) (o : Outcome) → PrintsBoxes rows h k o → o ≡ outcome.DiskFault → ⊥
prints_no_fault_of_disk rows h k o s e = subst (λ (x : Outcome). PrintsBoxes rows h k x) e s

opened_reads : (n m : ℕ) → IsOneOf (3 ∷ 5 ∷ 6 ∷ []) m → n ≡ m → n ≡ 7 → ⊥
opened_reads n m (inl a) e f = omega (arith, a, e, f)
opened_reads n m (inr (inl a)) e f = omega (arith, a, e, f)
opened_reads n m (inr (inr (inl a))) e f = omega (arith, a, e, f)
opened_reads n m (inr (inr (inr a))) e f = a

pub boxes_used : (h k : Option (List ℕ)) (old new : Option History) (f g : Faults) → BoxesOutcome h k old new f g outcome.Usage → ⊥
boxes_used h k old new f g (inl n) = refused_by 2 _ (opening_number n.why) (ap status_of n.ended_is) (inl refl)
boxes_used h k old new f g (inr l) = l.printed

pub boxes_input : (h k : Option (List ℕ)) (old new : Option History) (f g : Faults) (why : InputRefusal) → BoxesOutcome h k old new f g (outcome.InputRefused why) → ⊥
boxes_input h k old new f g why (inl n) = refused_by 4 _ (opening_number n.why) (ap status_of n.ended_is) (inr refl)
boxes_input h k old new f g why (inr l) = l.printed

boxes_reads : (h k : Option (List ℕ)) (old new : Option History) (f g : Faults) → BoxesOutcome h k old new f g outcome.ReadFault → ⊥
boxes_reads h k old new f g (inl n) = opened_reads 7 (status_of (opening_outcome n.why)) (opening_number n.why) (ap status_of n.ended_is) refl
boxes_reads h k old new f g (inr l) = l.printed

-- it reads no input
pub boxes_ended : (h k : Option (List ℕ)) (old new : Option History) (f g : Faults) (o : Outcome) → BoxesOutcome h k old new f g o → (o ≡ outcome.ReadFault) ⊎ ((why : InputRefusal) × (o ≡ outcome.InputRefused why)) → ⊥
boxes_ended h k old new f g o e (inl is) = boxes_reads h k old new f g (subst (λ (x : Outcome). BoxesOutcome h k old new f g x) is e)
boxes_ended h k old new f g o e (inr w) = boxes_input h k old new f g w.0 (subst (λ (x : Outcome). BoxesOutcome h k old new f g x) w.1 e)

-- damage that finds no memory for its text
pub boxes_damage : (h k : Option (List ℕ)) (old new : Option History) (f g : Faults) (s : StoreRefusal) → BoxesOutcome h k old new f g (outcome.StoreRefused s) → BoxesOutcome h k old new f g outcome.NoMemory
boxes_damage h k old new f g s (inl n) = inl (damage_lacking h k old new f g s n)
boxes_damage h k old new f g s (inr l) = absurd l.printed

among : (n : ℕ) → IsOneOf (0 ∷ 5 ∷ 8 ∷ []) n → IsOneOf (0 ∷ 5 ∷ 6 ∷ 8 ∷ []) n
among n (inl a) = inl a
among n (inr (inl a)) = inr (inl a)
among n (inr (inr (inl a))) = inr (inr (inr (inl a)))
among n (inr (inr (inr a))) = absurd a

-- no file of a settled disk refuses it
pub boxes_status : (h k : Option (List ℕ)) (old new : Option History) (f g : Faults) (o : Outcome) → BoxesOutcome h k old new f g o → (lists : Lists) → IsSettledFor lists old → IsOneOf (0 ∷ 5 ∷ 6 ∷ 8 ∷ []) (status_of o)
boxes_status h k old new f g o (inl n) lists s = elim (settled_opens lists old n.why s n.leaves.cause) [
  | inl fault ↦ inr (inr (inl (ap status_of n.ended_is ∙ ap (λ (w : OpenError). status_of (opening_outcome w)) fault)))
  | inr memory ↦ inr (inl (ap status_of n.ended_is ∙ ap (λ (w : OpenError). status_of (opening_outcome w)) memory))
]
boxes_status h k old new f g o (inr l) lists s = among (status_of o) (printed_number l.rows h k o l.printed)

-- ---- faults of the disk

pub unfaulted : (rows : List BoxRow) (h k : Option (List ℕ)) (o : Outcome) (f g : Faults) → PrintsBoxes rows h k o → NoFault f g → AnyFaultCounted (o ≡ outcome.DiskFault) f g
unfaulted rows h k o f g s none = subst (λ (x : Faults). AnyFaultCounted (o ≡ outcome.DiskFault) f x) (sym none) (record { reads = omega arith; changes = omega arith; rose = λ e. absurd (prints_no_fault_of_disk rows h k o s e) })

pub unopened_boxes : (old new : Option History) (f g : Faults) (why : OpenError) → IsUnopened why old new f g → BoxesRests (opening_outcome why ≡ outcome.DiskFault) f g old new
unopened_boxes old new f g why u = λ none. (u.settled_again (λ e. none (ap opening_outcome e)), u.carried (λ e. none (ap opening_outcome e)))
