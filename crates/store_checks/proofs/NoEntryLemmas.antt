-- The first 27 octets of a root log are a log if and only if it has no entry.
use Rattle.std.proofs.Common.{◌≡◌, inl, inr, ℕ, ◌+◌, ◌≤◌, List, [], ◌∷◌, ◌++◌, length, take, drop, Some, None, sym, ◌∙◌, ap, append_assoc, append-nil, length-append, arith}
use Rattle.std.proofs.lemmas.List.{take-append-drop, length-take-le}
use Rattle.std.proofs.Math.Seq.{take-append-add}
use Rattle.std.proofs.lemmas.List.Elements.{All-nil, All-head}
use Rattle.model_logs.specs.declared.log_head.LogHead.{LogHead}
use Rattle.model_logs.specs.LogFile.{HeadFits, head_octets, record_octets, EntryFits, opened, log_front, IsLog, IsDamagedAt}
use Rattle.model_logs.proofs.LogFileLemmas.{head_length, not_both}
use Rattle.model_store.specs.Opening.{HasClosedHead, HasNoEntry}

no_more : (head : LogHead) (entry : List ℕ) (entries : List (List ℕ)) (gate : ℕ) (behind octets : List ℕ) → HeadFits head → length octets ≡ 27
    → octets ≡ log_front head (entry ∷ entries) ++ gate ∷ behind → EntryFits entry → ⊥
no_more head entry entries gate behind octets fits long spelled entry_fits =
    let whole : length octets ≡ length (log_front head (entry ∷ entries)) + length (gate ∷ behind) = ap length spelled ∙ length-append (log_front head (entry ∷ entries)) (gate ∷ behind) in
    let front : length (log_front head (entry ∷ entries)) ≡ length (head_octets head) + length (opened (entry ∷ entries)) = length-append (head_octets head) (opened (entry ∷ entries)) in
    let first : length (opened (entry ∷ entries)) ≡ length (1 ∷ record_octets entry) + length (opened entries) = length-append (1 ∷ record_octets entry) (opened entries) in
    omega (arith, whole, front, first, long, head_length head fits)

-- 27 octets that are a log have no entry, and so their gate is closed
pub closed : (octets : List ℕ) (head : LogHead) (entries : List (List ℕ)) → 27 ≤ length octets → IsLog (take 27 octets) head entries → HasClosedHead octets
closed octets head (entry ∷ entries) long l =
    absurd (no_more head entry entries l.gate l.behind (take 27 octets) l.head_fits (length-take-le 27 octets long) l.spelled (All-head EntryFits entry entries l.entries_fit))
closed octets head [] long l =
    let e : take 27 octets ≡ head_octets head ++ l.gate ∷ l.behind = l.spelled ∙ ap (λ (t : List ℕ). t ++ l.gate ∷ l.behind) (append-nil (head_octets head)) in
    let n : 27 ≡ length (head_octets head) + length (l.gate ∷ l.behind) = sym (length-take-le 27 octets long) ∙ ap length e ∙ length-append (head_octets head) (l.gate ∷ l.behind) in
    record {
      head = head;
      fits = l.head_fits;
      gate = l.gate;
      behind = l.behind ++ drop 27 octets;
      spelled = sym (take-append-drop 27 octets) ∙ ap (λ (t : List ℕ). t ++ drop 27 octets) e ∙ append_assoc (head_octets head) (l.gate ∷ l.behind) (drop 27 octets);
      closed = elim l.ends [ inl shut ↦ shut | inr nothing ↦ absurd (omega (arith, n, head_length head l.head_fits, ap length nothing)) ];
    }

-- the first 27 octets behind a whole head and a closed gate are a log without entries
front_log : (octets : List ℕ) (c : HasClosedHead octets) → 27 ≤ length octets → IsLog (take 27 octets) c.head []
front_log octets c long =
    let l : length (head_octets c.head) ≡ 25 = head_length c.head c.fits in
    let e : take 27 octets ≡ head_octets c.head ++ c.gate ∷ take 1 c.behind =
    ap (take 27) c.spelled ∙ ap (λ (n : ℕ). take n (head_octets c.head ++ c.gate ∷ c.behind)) (let s : 27 ≡ length (head_octets c.head) + 2 = omega (arith, l) in s) ∙ take-append-add (head_octets c.head) (c.gate ∷ c.behind) 2 in
    record {
      head_fits = c.fits;
      entries_fit = All-nil EntryFits;
      gate = c.gate;
      behind = take 1 c.behind;
      spelled = e ∙ ap (λ (t : List ℕ). t ++ c.gate ∷ take 1 c.behind) (sym (append-nil (head_octets c.head)));
      ends = inl c.closed;
    }

-- so they are not damaged
pub whole : (octets : List ℕ) (place : ℕ) → 27 ≤ length octets → IsDamagedAt None (take 27 octets) place → HasNoEntry (Some octets) → ⊥
whole octets place long damaged (inl short) = omega (arith, long, short)
whole octets place long damaged (inr c) = not_both None (take 27 octets) c.head [] place (front_log octets c long) tt damaged
