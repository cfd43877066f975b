-- Laws of logs: octets are one log at most, or damaged at one place.
use Rattle.std.specs.Prelude.{◌≡◌, ◌<◌, ◌≤◌, ◌+◌, ℕ, List, [], ◌∷◌, ◌++◌, length, take, drop, All, refl, Option, codes}
use Rattle.std.specs.Int.{w32, to_be_bytes}
use Rattle.std.proofs.Common.{inl, inr, subst, sym, ◌∙◌, ap, append_assoc, append-nil, arith, length-append}
use Rattle.std.proofs.lemmas.List.{take-append-le, take-append-drop, take-take, length-take-le}
use Rattle.std.proofs.Math.Seq.{drop-append_seam}
use Rattle.std.proofs.lemmas.Bool.{cases_order}
use Rattle.std.proofs.lemmas.List.Elements.{All-head, All-tail}
use Rattle.model_logs.specs.declared.log_head.LogHead.{LogHead}
use Rattle.model_logs.specs.declared.log_head.LogKind.{LogKind}
use Rattle.model_logs.specs.declared.log_head.LogKind.TheVariants.{Root, Map, Box}
use Rattle.model_octets.proofs.PiecesLemmas.{split_same}
use Rattle.model_octets.proofs.NumberLemmas.{four_same, front, behind}
use Rattle.model_logs.specs.LogFile.{kind_letter, IsVersionOf, version_of, HeadFits, head_octets, record_octets, EntryFits, opened, log_front, end_from, log_end, record_places_from, EndsLog, IsLog, IsTaken, BeginsHead, IsHeadDamaged, BeginsRecord, IsRecordDamaged, IsDamagedAt}

-- a record begins no other
pub record_same : (a b x y : List ℕ) → EntryFits a → EntryFits b → record_octets a ++ x ≡ record_octets b ++ y → (a ≡ b) × (x ≡ y)
record_same a b x y fa fb e =
    let f : to_be_bytes w32 (length a) ++ (a ++ x) ≡ to_be_bytes w32 (length b) ++ (b ++ y) = sym (append_assoc (to_be_bytes w32 (length a)) a x) ∙ e ∙ append_assoc (to_be_bytes w32 (length b)) b y in
    let r : (to_be_bytes w32 (length a) ≡ to_be_bytes w32 (length b)) × (a ++ x ≡ b ++ y) = split_same (to_be_bytes w32 (length a)) (to_be_bytes w32 (length b)) _ _ refl f in
    split_same a b x y (four_same (length a) (length b) fa.short fb.short r.0) r.1

pub kind_same : (k l : LogKind) → kind_letter k ≡ kind_letter l → k ≡ l
kind_same Root Root e = refl
kind_same Root Map e = absurd (omega (arith, e))
kind_same Root Box e = absurd (omega (arith, e))
kind_same Map Root e = absurd (omega (arith, e))
kind_same Map Map e = refl
kind_same Map Box e = absurd (omega (arith, e))
kind_same Box Root e = absurd (omega (arith, e))
kind_same Box Map e = absurd (omega (arith, e))
kind_same Box Box e = refl

-- a kind may have the version in which its logs are written
pub written_fits : (kind : LogKind) → IsVersionOf kind (version_of kind)
written_fits Root = refl
written_fits Map = refl
written_fits Box = inr refl

numbers : LogHead → List ℕ
numbers h = to_be_bytes w32 h.number ++ to_be_bytes w32 h.generation

numbers_same : (h k : LogHead) (x y : List ℕ) → HeadFits h → HeadFits k → numbers h ++ x ≡ numbers k ++ y → (h.number ≡ k.number) × (h.generation ≡ k.generation) × (x ≡ y)
unfolding numbers
numbers_same h k x y fh fk e =
    let r : (to_be_bytes w32 h.number ≡ to_be_bytes w32 k.number) × (to_be_bytes w32 h.generation ++ x ≡ to_be_bytes w32 k.generation ++ y) =
    split_same (to_be_bytes w32 h.number) (to_be_bytes w32 k.number) (to_be_bytes w32 h.generation ++ x) (to_be_bytes w32 k.generation ++ y) refl e in
    let t : (to_be_bytes w32 h.generation ≡ to_be_bytes w32 k.generation) × (x ≡ y) = split_same (to_be_bytes w32 h.generation) (to_be_bytes w32 k.generation) x y refl r.1 in
    (four_same h.number k.number fh.number fk.number r.0, four_same h.generation k.generation fh.generation fk.generation t.0, t.1)

kind_split : (h k : LogHead) (a b : List ℕ) → kind_letter h.kind ∷ a ≡ kind_letter k.kind ∷ b → (h.kind ≡ k.kind) × (a ≡ b)
kind_split h k a b e = (kind_same h.kind k.kind (cc), cc)

head_of : ℕ → List ℕ → LogKind → ℕ → ℕ → LogHead
head_of version store kind number generation = record { version = version; store = record { 0 = store }; kind = kind; number = number; generation = generation }

head_is : (h : LogHead) → h ≡ head_of h.version h.store.0 h.kind h.number h.generation
unfolding head_of
head_is h = refl

heads_equal : (h k : LogHead) → h.version ≡ k.version → h.store.0 ≡ k.store.0 → h.kind ≡ k.kind → h.number ≡ k.number → h.generation ≡ k.generation → h ≡ k
heads_equal h k v a b c d = cc (head_is h, head_is k)

-- a head begins no other
pub head_same : (h k : LogHead) (x y : List ℕ) → HeadFits h → HeadFits k → head_octets h ++ x ≡ head_octets k ++ y → (h ≡ k) × (x ≡ y)
unfolding head_octets numbers
head_same h k x y fh fk e =
    let m = split_same (codes "MDBXLOG") (codes "MDBXLOG") _ _ refl e in
    let d : 48 + h.version ≡ 48 + k.version = ap front m.1 in
    let v : h.version ≡ k.version = omega (arith, d) in
    let t : (h.store.0 ++ (kind_letter h.kind ∷ numbers h)) ++ x ≡ (k.store.0 ++ (kind_letter k.kind ∷ numbers k)) ++ y = ap behind m.1 in
    let s : (h.store.0 ≡ k.store.0) × ((kind_letter h.kind ∷ (numbers h ++ x)) ≡ (kind_letter k.kind ∷ (numbers k ++ y))) =
    split_same h.store.0 k.store.0 _ _ (fh.store ∙ sym fk.store) (sym (append_assoc h.store.0 _ x) ∙ t ∙ append_assoc k.store.0 _ y) in
    let l : (h.kind ≡ k.kind) × (numbers h ++ x ≡ numbers k ++ y) = kind_split h k _ _ s.1 in
    let n : (h.number ≡ k.number) × (h.generation ≡ k.generation) × (x ≡ y) = numbers_same h k x y fh fk l.1 in
    (heads_equal h k v s.0 l.0 n.0 n.1, n.2)

-- a head has 25 octets
pub head_length : (h : LogHead) → HeadFits h → length (head_octets h) ≡ 25
unfolding head_octets
head_length h f = let e : length h.store.0 ≡ 8 = f.store in omega (arith, length-append h.store.0 (kind_letter h.kind ∷ (to_be_bytes w32 h.number ++ to_be_bytes w32 h.generation)))

-- no whole record with a gate follows an open gate
abbrev pub Stops : ℕ → List ℕ → Type 0
Stops gate behind = gate ≡ 1 → BeginsRecord behind → ⊥

pub stops-ends : (gate : ℕ) (behind : List ℕ) → EndsLog gate behind → Stops gate behind
stops-ends gate behind (inl closed) one b = closed one
stops-ends gate behind (inr ended) one b = no_octets b.entry b.gate b.behind (sym ended ∙ b.spelled)
  where
    no_octets : (entry : List ℕ) (gate : ℕ) (rest : List ℕ) → [] ≡ record_octets entry ++ gate ∷ rest → ⊥
    no_octets entry gate rest e = cc

-- a record and a gate stand behind the first of some open gates
begins : (e : List ℕ) (es : List (List ℕ)) (gate : ℕ) (rest : List ℕ) → EntryFits e → BeginsRecord ((record_octets e ++ opened es) ++ gate ∷ rest)
begins e [] gate rest f = record { entry = e; fits = f; gate = gate; behind = rest; spelled = ap (λ (t : List ℕ). t ++ gate ∷ rest) (append-nil (record_octets e)) }
begins e (n ∷ es) gate rest f = record { entry = e; fits = f; gate = 1; behind = (record_octets n ++ opened es) ++ gate ∷ rest; spelled = append_assoc (record_octets e) (opened (n ∷ es)) (gate ∷ rest) }

-- open gates go on to one place
pub opened_same : (es fs : List (List ℕ)) (g h : ℕ) (x y : List ℕ) → All EntryFits es → All EntryFits fs → Stops g x → Stops h y
    → opened es ++ g ∷ x ≡ opened fs ++ h ∷ y → (es ≡ fs) × (g ≡ h) × (x ≡ y)
opened_same [] [] g h x y fe ff sg sh e = (refl, cc, cc)
opened_same [] (f ∷ fs) g h x y fe ff sg sh e =
    let one : g ≡ 1 = cc in
    let t : x ≡ (record_octets f ++ opened fs) ++ h ∷ y = cc in
    absurd (sg one (subst BeginsRecord (sym t) (begins f fs h y (All-head EntryFits f fs ff))))
opened_same (f ∷ fs) [] g h x y fe ff sg sh e =
    let one : h ≡ 1 = cc in
    let t : y ≡ (record_octets f ++ opened fs) ++ g ∷ x = cc in
    absurd (sh one (subst BeginsRecord (sym t) (begins f fs g x (All-head EntryFits f fs fe))))
opened_same (a ∷ es) (b ∷ fs) g h x y fe ff sg sh e =
    let t : (record_octets a ++ opened es) ++ g ∷ x ≡ (record_octets b ++ opened fs) ++ h ∷ y = cc in
    let u : record_octets a ++ (opened es ++ g ∷ x) ≡ record_octets b ++ (opened fs ++ h ∷ y) = sym (append_assoc (record_octets a) (opened es) (g ∷ x)) ∙ t ∙ append_assoc (record_octets b) (opened fs) (h ∷ y) in
    let r : (a ≡ b) × (opened es ++ g ∷ x ≡ opened fs ++ h ∷ y) = record_same a b _ _ (All-head EntryFits a es fe) (All-head EntryFits b fs ff) u in
    let s : (es ≡ fs) × (g ≡ h) × (x ≡ y) = opened_same es fs g h x y (All-tail EntryFits a es fe) (All-tail EntryFits b fs ff) sg sh r.1 in
    (cc (r.0, s.0), s.1, s.2)

-- a head and open gates go on to one place
pub front_same : (a b : LogHead) (es fs : List (List ℕ)) (g h : ℕ) (x y : List ℕ) → HeadFits a → HeadFits b → All EntryFits es → All EntryFits fs → Stops g x → Stops h y
    → log_front a es ++ g ∷ x ≡ log_front b fs ++ h ∷ y → (a ≡ b) × (es ≡ fs) × (g ≡ h) × (x ≡ y)
front_same a b es fs g h x y fa fb fe ff sg sh e =
    let r : (a ≡ b) × (opened es ++ g ∷ x ≡ opened fs ++ h ∷ y) = head_same a b _ _ fa fb (sym (append_assoc (head_octets a) (opened es) (g ∷ x)) ∙ e ∙ append_assoc (head_octets b) (opened fs) (h ∷ y)) in
    let s : (es ≡ fs) × (g ≡ h) × (x ≡ y) = opened_same es fs g h x y fe ff sg sh r.1 in
    (r.0, s.0, s.1, s.2)

-- octets are one log at most
pub one_log : (octets : List ℕ) (h k : LogHead) (es fs : List (List ℕ)) → IsLog octets h es → IsLog octets k fs → (h ≡ k) × (es ≡ fs)
one_log octets h k es fs a b =
    let r : (h ≡ k) × (es ≡ fs) × (a.gate ≡ b.gate) × (a.behind ≡ b.behind) =
    front_same h k es fs a.gate b.gate a.behind b.behind a.head_fits b.head_fits a.entries_fit b.entries_fit (stops-ends a.gate a.behind a.ends) (stops-ends b.gate b.behind b.ends) (sym a.spelled ∙ b.spelled) in
    (r.0, r.1)

-- the beginning of a head's beginning begins it too
pub begins_shorter : (asked : Option LogHead) (octets : List ℕ) (m n : ℕ) → m ≤ n → BeginsHead asked (take n octets) → BeginsHead asked (take m octets)
begins_shorter asked octets m n h b =
    let e : take m octets ++ (drop m (take n octets) ++ b.more) ≡ head_octets b.head =
    sym (append_assoc (take m octets) (drop m (take n octets)) b.more)
    ∙ ap (λ (t : List ℕ). t ++ b.more) (ap (λ (t : List ℕ). t ++ drop m (take n octets)) (sym (take-take m n octets h)) ∙ take-append-drop m (take n octets))
    ∙ b.spelled in
    record { head = b.head; fits = b.fits; is_taken = b.is_taken; more = drop m (take n octets) ++ b.more; spelled = e }

-- the beginning of a head has 25 octets at most
pub begins_short : (asked : Option LogHead) (octets : List ℕ) → BeginsHead asked octets → length octets ≤ 25
begins_short asked octets b = let e : length octets + length b.more ≡ 25 = sym (length-append octets b.more) ∙ ap length b.spelled ∙ head_length b.head b.fits in omega (arith, e)

-- a whole head that is taken begins with each of its beginnings
pub whole_begins : (asked : Option LogHead) (octets : List ℕ) (head : LogHead) (rest : List ℕ) (n : ℕ) → HeadFits head → IsTaken asked head → octets ≡ head_octets head ++ rest → n ≤ 25 → BeginsHead asked (take n octets)
whole_begins asked octets head rest n f t e h =
    let l : n ≤ length (head_octets head) = omega (arith, h, head_length head f) in
    let x : take n octets ≡ take n (head_octets head) = ap (take n) e ∙ take-append-le n (head_octets head) rest l in
    record { head = head; fits = f; is_taken = t; more = drop n (head_octets head); spelled = ap (λ (o : List ℕ). o ++ drop n (head_octets head)) x ∙ take-append-drop n (head_octets head) }

-- a whole head that is taken, with a gate, is not damaged
pub whole_head : (asked : Option LogHead) (octets : List ℕ) (head : LogHead) (gate : ℕ) (rest : List ℕ) (place : ℕ) → HeadFits head → IsTaken asked head → octets ≡ head_octets head ++ gate ∷ rest
    → IsHeadDamaged asked octets place → ⊥
whole_head asked octets head gate rest place f t e d =
    let b : length (take place octets) ≤ 25 = begins_short asked (take place octets) d.begins in
    let l : length octets ≡ 25 + length (gate ∷ rest) = ap length e ∙ length-append (head_octets head) (gate ∷ rest) ∙ ap (λ (n : ℕ). n + length (gate ∷ rest)) (head_length head f) in
    let i : place ≤ length octets = d.within in
    let p : length (take place octets) ≡ place = length-take-le place octets i in
    elim d.ends [
      | inl z ↦ omega (arith, z, b, l, p)
      | inr z ↦ z.2 (whole_begins asked octets head (gate ∷ rest) (place + 1) f t e (omega (arith, z.1)))
    ]

head_damage_first : (asked : Option LogHead) (octets : List ℕ) (m n : ℕ) → IsHeadDamaged asked octets m → IsHeadDamaged asked octets n → m < n → ⊥
head_damage_first asked octets m n a b l =
    let w : n ≤ length octets = b.within in
    elim a.ends [
      | inl z ↦ omega (arith, z, w, l)
      | inr z ↦ z.2 (begins_shorter asked octets (m + 1) n (omega arith) b.begins)
    ]

record_not_head : (asked : Option LogHead) (octets : List ℕ) (m n : ℕ) → IsHeadDamaged asked octets m → IsRecordDamaged asked octets n → ⊥
record_not_head asked octets m n a b =
    behind_gate b.entries (b.spelled ∙ append_assoc (head_octets b.head) (opened b.entries) (1 ∷ b.behind))
  where
    behind_gate : (es : List (List ℕ)) → octets ≡ head_octets b.head ++ (opened es ++ 1 ∷ b.behind) → ⊥
    behind_gate [] e = whole_head asked octets b.head 1 b.behind m b.head_fits b.is_taken e a
    behind_gate (x ∷ es) e = whole_head asked octets b.head 1 ((record_octets x ++ opened es) ++ 1 ∷ b.behind) m b.head_fits b.is_taken e a

record_damage_once : (asked : Option LogHead) (octets : List ℕ) (m n : ℕ) → IsRecordDamaged asked octets m → IsRecordDamaged asked octets n → m ≡ n
record_damage_once asked octets m n a b =
    let r : (a.head ≡ b.head) × (a.entries ≡ b.entries) × (1 ≡ 1) × (a.behind ≡ b.behind) =
    front_same a.head b.head a.entries b.entries 1 1 a.behind b.behind a.head_fits b.head_fits a.entries_fit b.entries_fit (λ _. a.no_record) (λ _. b.no_record) (sym a.spelled ∙ b.spelled) in
    let e : log_front a.head a.entries ≡ log_front b.head b.entries = cc (r.0, r.1) in
    a.is ∙ ap (λ (t : List ℕ). length t + 1) e ∙ sym b.is

-- octets are damaged at one place at most
pub one_damage : (asked : Option LogHead) (octets : List ℕ) (m n : ℕ) → IsDamagedAt asked octets m → IsDamagedAt asked octets n → m ≡ n
one_damage asked octets m n (inl a) (inl b) =
    elim (cases_order m n) [ inl e ↦ e | inr r ↦ elim r [ inl l ↦ absurd (head_damage_first asked octets m n a b l) | inr g ↦ absurd (head_damage_first asked octets n m b a g) ] ]
one_damage asked octets m n (inl a) (inr b) = absurd (record_not_head asked octets m n a b)
one_damage asked octets m n (inr a) (inl b) = absurd (record_not_head asked octets n m b a)
one_damage asked octets m n (inr a) (inr b) = record_damage_once asked octets m n a b

-- a log whose head is taken is not damaged
pub not_both : (asked : Option LogHead) (octets : List ℕ) (head : LogHead) (entries : List (List ℕ)) (place : ℕ) → IsLog octets head entries → IsTaken asked head → IsDamagedAt asked octets place → ⊥
not_both asked octets head entries place l t (inl d) = behind_gate entries (l.spelled ∙ append_assoc (head_octets head) (opened entries) (l.gate ∷ l.behind))
  where
    behind_gate : (es : List (List ℕ)) → octets ≡ head_octets head ++ (opened es ++ l.gate ∷ l.behind) → ⊥
    behind_gate [] e = whole_head asked octets head l.gate l.behind place l.head_fits t e d
    behind_gate (x ∷ es) e = whole_head asked octets head 1 ((record_octets x ++ opened es) ++ l.gate ∷ l.behind) place l.head_fits t e d
not_both asked octets head entries place l t (inr d) =
    let r : (head ≡ d.head) × (entries ≡ d.entries) × (l.gate ≡ 1) × (l.behind ≡ d.behind) =
    front_same head d.head entries d.entries l.gate 1 l.behind d.behind l.head_fits d.head_fits l.entries_fit d.entries_fit (stops-ends l.gate l.behind l.ends) (λ _. d.no_record) (sym l.spelled ∙ d.spelled) in
    elim l.ends [ inl n ↦ n r.2 | inr n ↦ d.some (sym r.3 ∙ n) ]

-- one entry more

pub opened_more : (es : List (List ℕ)) (e : List ℕ) → opened (es ++ e ∷ []) ≡ opened es ++ 1 ∷ record_octets e
opened_more [] e = append-nil (1 ∷ record_octets e)
opened_more (x ∷ es) e = ap (λ (t : List ℕ). (1 ∷ record_octets x) ++ t) (opened_more es e) ∙ sym (append_assoc (1 ∷ record_octets x) (opened es) (1 ∷ record_octets e))

pub front_more : (head : LogHead) (es : List (List ℕ)) (e : List ℕ) → log_front head (es ++ e ∷ []) ≡ log_front head es ++ 1 ∷ record_octets e
front_more head es e = ap (λ (t : List ℕ). head_octets head ++ t) (opened_more es e) ∙ sym (append_assoc (head_octets head) (opened es) (1 ∷ record_octets e))

pub end_from_more : (gate : ℕ) (es : List (List ℕ)) (e : List ℕ) → end_from gate (es ++ e ∷ []) ≡ end_from gate es + 5 + length e
end_from_more gate [] e = refl
end_from_more gate (x ∷ es) e = end_from_more (gate + 5 + length x) es e

pub places_from_more : (gate : ℕ) (es : List (List ℕ)) (e : List ℕ) → record_places_from gate (es ++ e ∷ []) ≡ record_places_from gate es ++ (end_from gate es + 1) ∷ []
places_from_more gate [] e = refl
places_from_more gate (x ∷ es) e = ap (λ (t : List ℕ). (gate + 1) ∷ t) (places_from_more (gate + 5 + length x) es e)

-- the last gate stands behind the head and the open gates

opened_length : (gate : ℕ) (es : List (List ℕ)) → gate + length (opened es) ≡ end_from gate es
opened_length gate [] = omega arith
opened_length gate (x ∷ es) =
    let l : length (opened (x ∷ es)) ≡ length (1 ∷ record_octets x) + length (opened es) = length-append (1 ∷ record_octets x) (opened es) in
    let r : (gate + 5 + length x) + length (opened es) ≡ end_from (gate + 5 + length x) es = opened_length (gate + 5 + length x) es in
    let t : gate + length (opened (x ∷ es)) ≡ (gate + 5 + length x) + length (opened es) = omega (arith, l) in
    t ∙ r

pub front_length : (head : LogHead) (es : List (List ℕ)) → HeadFits head → length (log_front head es) ≡ log_end es
front_length head es f = length-append (head_octets head) (opened es) ∙ ap (λ (n : ℕ). n + length (opened es)) (head_length head f) ∙ opened_length 25 es

-- where octets go on behind their front
pub behind_front : (front rest octets : List ℕ) (gate : ℕ) → octets ≡ front ++ rest → gate ≡ length front → drop gate octets ≡ rest
behind_front front rest octets gate e l = rw (e, l) (drop-append_seam front rest)
