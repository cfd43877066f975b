-- Which octets begin a record, and that octets are a log or damaged.
use Rattle.std.specs.Prelude.{◌≡◌, ◌≢◌, ◌<◌, ◌≤◌, ◌^◌, ◌+◌, ℕ, List, [], ◌∷◌, ◌++◌, length, take, drop, All, refl, Option, IfSome, ◌⊎◌}
use Rattle.std.specs.Int.{w32, to_be_bytes, from_be_bytes}
use Rattle.std.proofs.Common.{inl, inr, zero, suc, subst, sym, ◌∙◌, ap, append_assoc, append-nil, arith, get_or, length-append, length-drop, drop-cons}
use Rattle.std.proofs.Math.Seq.{drop-append_seam}
use Rattle.std.proofs.lemmas.Bool.{cases_lt, cases_eq}
use Rattle.std.proofs.lemmas.List.{take-append-drop, length-take-le}
use Rattle.std.proofs.lemmas.List.Elements.{All-nil, All-cons, All-tail, All-take, All-drop}
use Rattle.std.proofs.lemmas.Nat.{be_bytes_4, from_be_bytes-to_be_bytes_4}
use Rattle.mdbox_base.specs.Words.{IsOctets}
use Rattle.model_logs.specs.declared.log_head.LogHead.{LogHead}
use Rattle.model_logs.specs.LogFile.{HeadFits, head_octets, record_octets, EntryFits, opened, log_front, EndsLog, IsLog, IsTaken, BeginsHead, BeginsRecord, IsDamagedAt}
use Rattle.model_logs.proofs.LogFileLemmas.{head_length}
use Rattle.model_logs.proofs.LogHeadLemmas.{octet_at, number_below, begins_where, head_damaged, head_short, first_place}

-- the length that a record says
abbrev pub said : List ℕ → ℕ
said octets = from_be_bytes w32 (take 4 octets)

said_below : (octets : List ℕ) → IsOctets octets → said octets < 2 ^ 32
said_below octets o = number_below (take 4 octets) (All-take (λ b. b < 256) 4 octets o)

split : (octets : List ℕ) (size : ℕ) → size < length (drop 4 octets) → octets ≡ (take 4 octets ++ take size (drop 4 octets)) ++ get_or (drop 4 octets) size 0 ∷ drop (suc size) (drop 4 octets)
split octets size l =
    sym (take-append-drop 4 octets)
    ∙ ap (λ (t : List ℕ). take 4 octets ++ t) (sym (take-append-drop size (drop 4 octets)) ∙ ap (λ (t : List ℕ). take size (drop 4 octets) ++ t) (drop-cons (drop 4 octets) size 0 l))
    ∙ sym (append_assoc (take 4 octets) (take size (drop 4 octets)) (get_or (drop 4 octets) size 0 ∷ drop (suc size) (drop 4 octets)))

-- a record is whole where its length is not 0 and the file goes on behind it
pub record_where : (octets : List ℕ) → IsOctets octets → 1 ≤ said octets → 4 + said octets < length octets → BeginsRecord octets
record_where octets o some within =
    let behind : said octets < length (drop 4 octets) = omega (arith, length-drop 4 octets, within) in
    let size : length (take (said octets) (drop 4 octets)) ≡ said octets = length-take-le (said octets) (drop 4 octets) (omega (arith, behind)) in
    let four : length (take 4 octets) ≡ 4 = length-take-le 4 octets (omega (arith, within)) in
    let spelt : to_be_bytes w32 (length (take (said octets) (drop 4 octets))) ≡ take 4 octets =
    be_bytes_4 (take 4 octets) (length (take (said octets) (drop 4 octets))) four (λ i. octet_at (take 4 octets) i (All-take (λ b. b < 256) 4 octets o)) size in
    record {
      entry = take (said octets) (drop 4 octets);
      fits = record { some = rw size some; short = rw size (said_below octets o) };
      gate = get_or (drop 4 octets) (said octets) 0;
      behind = drop (suc (said octets)) (drop 4 octets);
      spelled = split octets (said octets) behind
          ∙ ap (λ (t : List ℕ). (t ++ take (said octets) (drop 4 octets)) ++ get_or (drop 4 octets) (said octets) 0 ∷ drop (suc (said octets)) (drop 4 octets)) (sym spelt);
    }

pub record_there : (octets : List ℕ) → IsOctets octets → 1 ≤ said octets → 4 + said octets < length octets → (b : BeginsRecord octets) × (b.entry ≡ take (said octets) (drop 4 octets))
unfolding record_where
record_there octets o some within = (record_where octets o some within, refl)

-- and only there
pub record_only : (octets : List ℕ) → BeginsRecord octets → (1 ≤ said octets) × (4 + said octets < length octets)
record_only octets b =
    let four : take 4 octets ≡ to_be_bytes w32 (length b.entry) = ap (take 4) b.spelled in
    let size : said octets ≡ length b.entry = ap (from_be_bytes w32) four ∙ from_be_bytes-to_be_bytes_4 (length b.entry) b.fits.short in
    let whole : length octets ≡ length (record_octets b.entry) + length (b.gate ∷ b.behind) = ap length b.spelled ∙ length-append (record_octets b.entry) (b.gate ∷ b.behind) in
    let some : 1 ≤ length b.entry = b.fits.some in
    (rw size some, rw size (omega (arith, whole)))

record_decides : (octets : List ℕ) → IsOctets octets → BeginsRecord octets ⊎ (BeginsRecord octets → ⊥)
record_decides octets o = elim (cases_lt 0 (said octets)) [
  | inl some ↦ elim (cases_lt (4 + said octets) (length octets)) [
    | inl within ↦ inl (record_where octets o some within)
    | inr past ↦ inr (λ b. let r : 4 + said octets < length octets = (record_only octets b).1 in omega (arith, r, past))
  ]
  | inr none ↦ inr (λ b. let r : 1 ≤ said octets = (record_only octets b).0 in omega (arith, r, none))
]

-- how the gates and records behind a head end
pub data Behind (octets : List ℕ) : Type 0 where
  whole : (entries : List (List ℕ)) (fits : All EntryFits entries) (gate : ℕ) (behind : List ℕ) (spelled : octets ≡ opened entries ++ gate ∷ behind) (ends : EndsLog gate behind) → Behind octets
  broken : (entries : List (List ℕ)) (fits : All EntryFits entries) (behind : List ℕ) (spelled : octets ≡ opened entries ++ 1 ∷ behind) (some : behind ≢ []) (none : BeginsRecord behind → ⊥) → Behind octets

further : (b : List ℕ) (one : BeginsRecord b) → Behind (one.gate ∷ one.behind) → Behind (1 ∷ b)
further b one (whole es f g behind s e) =
    whole (one.entry ∷ es) (All-cons EntryFits one.entry es one.fits f) g behind
    (ap (λ (t : List ℕ). 1 ∷ t) (one.spelled ∙ ap (λ (t : List ℕ). record_octets one.entry ++ t) s ∙ sym (append_assoc (record_octets one.entry) (opened es) (g ∷ behind)))) e
further b one (broken es f behind s some none) =
    broken (one.entry ∷ es) (All-cons EntryFits one.entry es one.fits f) behind
    (ap (λ (t : List ℕ). 1 ∷ t) (one.spelled ∙ ap (λ (t : List ℕ). record_octets one.entry ++ t) s ∙ sym (append_assoc (record_octets one.entry) (opened es) (1 ∷ behind)))) some none

shorter : (b : List ℕ) (one : BeginsRecord b) → length one.behind < length b
shorter b one = let e : length b ≡ length (record_octets one.entry) + length (one.gate ∷ one.behind) = ap length one.spelled ∙ length-append (record_octets one.entry) (one.gate ∷ one.behind) in omega (arith, e)

rest_octets : (b : List ℕ) (one : BeginsRecord b) → IsOctets b → IsOctets one.behind
rest_octets b one o =
    let all : IsOctets (one.gate ∷ one.behind) =
    subst IsOctets (drop-append_seam (record_octets one.entry) (one.gate ∷ one.behind)) (All-drop (λ b. b < 256) (length (record_octets one.entry)) (record_octets one.entry ++ one.gate ∷ one.behind) (subst IsOctets one.spelled o)) in
    All-tail (λ b. b < 256) one.gate one.behind all

behind_gate : (fuel gate : ℕ) (rest : List ℕ) → length rest ≤ fuel → IsOctets rest → Behind (gate ∷ rest)
behind_gate fuel gate [] l o = whole [] (All-nil EntryFits) gate [] refl (inr refl)
behind_gate zero gate (x ∷ xs) l o = absurd (omega arith)
behind_gate (suc fuel) gate (x ∷ xs) l o = elim (cases_eq gate 1) [
  | inr closed ↦ whole [] (All-nil EntryFits) gate (x ∷ xs) refl (inl closed)
  | inl one ↦ elim (record_decides (x ∷ xs) o) [
    | inl r ↦ subst Behind (ap (λ (g : ℕ). g ∷ x ∷ xs) (sym one)) (further (x ∷ xs) r (behind_gate fuel r.gate r.behind (let s : length r.behind < length (x ∷ xs) = shorter (x ∷ xs) r in omega arith) (rest_octets (x ∷ xs) r o)))
    | inr none ↦ broken [] (All-nil EntryFits) (x ∷ xs) (ap (λ (g : ℕ). g ∷ x ∷ xs) one) (λ e. cc) none
  ]
]

-- a beginning of a head that has all its octets is the head
pub all_of_head : (asked : Option LogHead) (octets : List ℕ) (b : BeginsHead asked octets) → length octets ≡ 25 → octets ≡ head_octets b.head
all_of_head asked octets b l =
    let whole : length octets + length b.more ≡ 25 = sym (length-append octets b.more) ∙ ap length b.spelled ∙ head_length b.head b.fits in
    let nothing : length b.more ≡ 0 = omega arith in
    sym (append-nil octets) ∙ ap (λ (t : List ℕ). octets ++ t) (sym (empty b.more nothing)) ∙ b.spelled
  where
    empty : (xs : List ℕ) → length xs ≡ 0 → xs ≡ []
    empty [] e = refl
    empty (x ∷ xs) e = absurd (omega (arith, e))

-- octets with a whole head that is taken, and a gate
with_head : (asked : Option LogHead) (octets : List ℕ) (head : LogHead) (rest : List ℕ) → HeadFits head → IsTaken asked head → octets ≡ head_octets head ++ rest → Behind rest
    → ((head : LogHead) × (entries : List (List ℕ)) × IsTaken asked head × IsLog octets head entries) ⊎ ((place : ℕ) × IsDamagedAt asked octets place)
with_head asked octets head rest f t e (whole es fits gate behind s ends) =
    inl (head, es, t, record { head_fits = f; entries_fit = fits; gate = gate; behind = behind; spelled = e ∙ ap (λ (x : List ℕ). head_octets head ++ x) s ∙ sym (append_assoc (head_octets head) (opened es) (gate ∷ behind)); ends = ends })
with_head asked octets head rest f t e (broken es fits behind s some none) =
    inr (
      length (log_front head es) + 1,
      inr (record {
        head = head;
        head_fits = f;
        is_taken = t;
        entries = es;
        entries_fit = fits;
        behind = behind;
        spelled = e ∙ ap (λ (x : List ℕ). head_octets head ++ x) s ∙ sym (append_assoc (head_octets head) (opened es) (1 ∷ behind));
        some = some;
        no_record = none;
        is = refl;
      }),
    )

-- octets are a log with a head that is taken, or damaged at a place
pub log_or_damage : (asked : Option LogHead) (octets : List ℕ) → IsOctets octets → IfSome asked HeadFits
    → ((head : LogHead) × (entries : List (List ℕ)) × IsTaken asked head × IsLog octets head entries) ⊎ ((place : ℕ) × IsDamagedAt asked octets place)
log_or_damage asked octets o f = elim (cases_lt 25 (length octets)) [
  | inr short ↦ elim (first_place asked octets (length octets)) [
    | inl all ↦ inr (length octets, inl (head_short asked octets f short o all))
    | inr p ↦ inr (p.0, inl (let l : p.0 < length octets = p.1 in head_damaged asked octets p.0 f l (omega arith) o p.2 p.3))
  ]
  | inl long ↦ elim (first_place asked octets 25) [
    | inr p ↦ inr (p.0, inl (let l : p.0 < 25 = p.1 in head_damaged asked octets p.0 f (omega arith) l o p.2 p.3))
    | inl all ↦
        let b : BeginsHead asked (take 25 octets) = begins_where asked octets 25 f (omega arith) (omega arith) o all in
        let is : take 25 octets ≡ head_octets b.head = all_of_head asked (take 25 octets) b (length-take-le 25 octets (omega arith)) in
        let whole : octets ≡ head_octets b.head ++ (get_or octets 25 0 ∷ drop 26 octets) =
        sym (take-append-drop 25 octets) ∙ ap (λ (t : List ℕ). t ++ drop 25 octets) is ∙ ap (λ (t : List ℕ). head_octets b.head ++ t) (drop-cons octets 25 0 long) in
        with_head asked octets b.head (get_or octets 25 0 ∷ drop 26 octets) b.fits b.is_taken whole
        (behind_gate (length (drop 26 octets)) (get_or octets 25 0) (drop 26 octets) (omega arith) (All-drop (λ b. b < 256) 26 octets o))
  ]
]
