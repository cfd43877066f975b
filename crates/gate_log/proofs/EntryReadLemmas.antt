-- Reading a log, entry by entry.
use Rattle.std.specs.Prelude.{◌⊎◌}
use Rattle.std.proofs.Common.{◌≡◌, inl, inr, ℕ, ◌+◌, ◌-◌, ◌<◌, ◌≤◌, List, [], ◌∷◌, ◌++◌, length, take, drop, get_or, refl, sym, ◌∙◌, ap, subst, append_assoc, append-nil, length-append, length-drop, drop-cons, arith, All, Option}
use Rattle.std.proofs.Math.Seq.{get_or-append_seam}
use Rattle.std.proofs.lemmas.List.{take-append-drop, take_all}
use Rattle.std.proofs.lemmas.List.Elements.{All-nil, All-push}
use Rattle.model_logs.specs.declared.log_head.LogHead.{LogHead}
use Rattle.model_logs.specs.LogFile.{HeadFits, head_octets, record_octets, EntryFits, log_front, log_end, record_places, IsLog, IsTaken, BeginsRecord, IsRecordDamaged}
use Rattle.model_logs.proofs.LogFileLemmas.{front_more, front_length, behind_front, places_from_more}

-- the rest of a list, as a slice of it
pub rest_is : (n : ℕ) (xs : List ℕ) → take (length xs - n) (drop n xs) ≡ drop n xs
rest_is n xs = take_all (length xs - n) (drop n xs) (omega (arith, length-drop n xs))

-- so far there are these entries, and a gate is next
pub record Passed (octets : List ℕ) (head : LogHead) (entries : List (List ℕ)) (places : List ℕ) (gate : ℕ) : Type 0 where
  pub next : ℕ
  pub behind : List ℕ
  pub spelled : octets ≡ log_front head entries ++ next ∷ behind
  pub at : gate ≡ length (log_front head entries)
  pub fits : All EntryFits entries
  pub are_places : places ≡ record_places entries

pub passed-none : (octets : List ℕ) (head : LogHead) → HeadFits head → 25 < length octets → take 25 octets ≡ head_octets head → Passed octets head [] [] 25
passed-none octets head f l e = record {
  next = get_or octets 25 0;
  behind = drop 26 octets;
  spelled = sym (take-append-drop 25 octets) ∙ ap (λ (t : List ℕ). t ++ drop 25 octets) (e ∙ sym (append-nil (head_octets head))) ∙ ap (λ (t : List ℕ). log_front head [] ++ t) (drop-cons octets 25 0 l);
  at = sym (front_length head [] f);
  fits = All-nil EntryFits;
  are_places = refl;
}

pub passed-gate : (octets : List ℕ) (head : LogHead) (entries : List (List ℕ)) (places : List ℕ) (gate : ℕ) (p : Passed octets head entries places gate) → get_or octets gate 0 ≡ p.next
passed-gate octets head entries places gate p =
    ap (λ (t : List ℕ). get_or t gate 0) p.spelled ∙ ap (λ (n : ℕ). get_or (log_front head entries ++ p.next ∷ p.behind) n 0) p.at ∙ get_or-append_seam (log_front head entries) p.next p.behind 0

pub passed-within : (octets : List ℕ) (head : LogHead) (entries : List (List ℕ)) (places : List ℕ) (gate : ℕ) (p : Passed octets head entries places gate) → length octets ≡ gate + 1 + length p.behind
passed-within octets head entries places gate p =
    let l : length octets ≡ length (log_front head entries) + length (p.next ∷ p.behind) = ap length p.spelled ∙ length-append (log_front head entries) (p.next ∷ p.behind) in
    let a : gate ≡ length (log_front head entries) = p.at in
    omega (arith, l, a)

pub passed-behind : (octets : List ℕ) (head : LogHead) (entries : List (List ℕ)) (places : List ℕ) (gate : ℕ) (p : Passed octets head entries places gate) → drop (gate + 1) octets ≡ p.behind
passed-behind octets head entries places gate p =
    behind_front (log_front head entries ++ p.next ∷ []) p.behind octets (gate + 1)
    (p.spelled ∙ sym (append_assoc (log_front head entries) (p.next ∷ []) p.behind))
    (let a : gate ≡ length (log_front head entries) = p.at in omega (arith, a, length-append (log_front head entries) (p.next ∷ [])))

-- one entry more
pub passed-more : (octets : List ℕ) (head : LogHead) (entries : List (List ℕ)) (places : List ℕ) (gate : ℕ) → HeadFits head → Passed octets head entries places gate
    → get_or octets gate 0 ≡ 1 → (b : BeginsRecord (drop (gate + 1) octets)) → Passed octets head (entries ++ b.entry ∷ []) (places ++ (gate + 1) ∷ []) (gate + (length b.entry + 5))
passed-more octets head entries places gate f p opens b =
    let one : p.next ≡ 1 = sym (passed-gate octets head entries places gate p) ∙ opens in
    let behind : p.behind ≡ record_octets b.entry ++ b.gate ∷ b.behind = sym (passed-behind octets head entries places gate p) ∙ b.spelled in
    let a : gate ≡ length (log_front head entries) = p.at in
    let end : log_end entries ≡ gate = sym (front_length head entries f) ∙ sym a in
    let front : log_front head (entries ++ b.entry ∷ []) ≡ log_front head entries ++ 1 ∷ record_octets b.entry = front_more head entries b.entry in
    record {
      next = b.gate;
      behind = b.behind;
      spelled = p.spelled ∙ ap (λ (n : ℕ). log_front head entries ++ n ∷ p.behind) one ∙ ap (λ (t : List ℕ). log_front head entries ++ 1 ∷ t) behind
          ∙ sym (append_assoc (log_front head entries) (1 ∷ record_octets b.entry) (b.gate ∷ b.behind)) ∙ ap (λ (t : List ℕ). t ++ b.gate ∷ b.behind) (sym front);
      at = let l : length (log_front head (entries ++ b.entry ∷ [])) ≡ length (log_front head entries) + length (1 ∷ record_octets b.entry) = ap length front ∙ length-append (log_front head entries) (1 ∷ record_octets b.entry) in omega (arith, l, a);
      fits = All-push EntryFits entries b.entry p.fits b.fits;
      are_places = ap (λ (t : List ℕ). t ++ (gate + 1) ∷ []) p.are_places ∙ ap (λ (n : ℕ). record_places entries ++ (n + 1) ∷ []) (sym end) ∙ sym (places_from_more 25 entries b.entry);
    }

-- no record behind an open gate
pub passed-broken : (asked : Option LogHead) (octets : List ℕ) (head : LogHead) (entries : List (List ℕ)) (places : List ℕ) (gate : ℕ) → HeadFits head → IsTaken asked head → Passed octets head entries places gate
    → get_or octets gate 0 ≡ 1 → gate + 1 < length octets → (BeginsRecord (drop (gate + 1) octets) → ⊥) → IsRecordDamaged asked octets (gate + 1)
passed-broken asked octets head entries places gate f t p opens within none =
    let behind : drop (gate + 1) octets ≡ p.behind = passed-behind octets head entries places gate p in
    record {
      head = head;
      head_fits = f;
      is_taken = t;
      entries = entries;
      entries_fit = p.fits;
      behind = p.behind;
      spelled = p.spelled ∙ ap (λ (n : ℕ). log_front head entries ++ n ∷ p.behind) (sym (passed-gate octets head entries places gate p) ∙ opens);
      some = λ e. let l : length p.behind ≡ 0 = ap length e in omega (arith, l, within, passed-within octets head entries places gate p);
      no_record = subst (λ (o : List ℕ). BeginsRecord o → ⊥) behind none;
      is = ap (λ (n : ℕ). n + 1) p.at;
    }

-- the last gate
pub passed-whole : (octets : List ℕ) (head : LogHead) (entries : List (List ℕ)) (places : List ℕ) (gate : ℕ) → HeadFits head → Passed octets head entries places gate
    → ((get_or octets gate 0 ≡ 1 → ⊥) ⊎ (length octets ≤ gate + 1)) → IsLog octets head entries
passed-whole octets head entries places gate f p last = record {
  head_fits = f;
  entries_fit = p.fits;
  gate = p.next;
  behind = p.behind;
  spelled = p.spelled;
  ends = elim last [
    | inl closed ↦ inl (λ e. closed (passed-gate octets head entries places gate p ∙ e))
    | inr end ↦ inr (empty p.behind (omega (arith, end, passed-within octets head entries places gate p)))
  ];
}
  where
    empty : (xs : List ℕ) → length xs ≤ 0 → xs ≡ []
    empty [] l = refl
    empty (x ∷ xs) l = absurd (omega (arith, l))

pub passed-end : (octets : List ℕ) (head : LogHead) (entries : List (List ℕ)) (places : List ℕ) (gate : ℕ) → HeadFits head → Passed octets head entries places gate → gate ≡ log_end entries
passed-end octets head entries places gate f p = p.at ∙ front_length head entries f
