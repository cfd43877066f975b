-- Going over the entries of a log where they stand.
use Rattle.std.proofs.Common.{◌≡◌, ℕ, ◌+◌, ◌≤◌, List, [], ◌∷◌, ◌++◌, length, drop, get_or, refl, sym, ◌∙◌, ap, subst, append_assoc, append-nil, length-append, arith}
use Rattle.std.proofs.lemmas.List.{drop-drop}
use Rattle.std.proofs.lemmas.List.Elements.{All-head, All-tail}
use Rattle.model_logs.specs.declared.log_head.LogHead.{LogHead}
use Rattle.model_logs.specs.LogFile.{HeadFits, head_octets, record_octets, EntryFits, opened, end_from, log_end, record_places, IsLog, BeginsRecord}
use Rattle.model_logs.proofs.LogFileLemmas.{record_same, stops-ends, head_length, behind_front, one_log}
use Rattle.gate_log.specs.Text.{IsLogText, HasEntriesAt}
use Rattle.gate_log.specs.Reading.{IsReading}
use Rattle.gate_log.specs.declared.read.LogRead.{LogRead}
use Rattle.gate_log.specs.declared.text.LogText.{LogText}
use Rattle.gate_log.proofs.OpenLogLemmas.{read-log}
use Rattle.gate_log.proofs.EntryReadLemmas.{Passed, passed-more, passed-end}

-- the first gate of a log
pub first-entries : (text : LogText) (entries : List (List ℕ)) → IsLogText text entries → HasEntriesAt text.octets 25 entries
first-entries text entries t = record {
  entries_fit = t.log.entries_fit;
  last = t.log.gate;
  behind = t.log.behind;
  spelled = behind_front (head_octets text.head) (opened entries ++ t.log.gate ∷ t.log.behind) text.octets 25 (t.log.spelled ∙ append_assoc (head_octets text.head) (opened entries) (t.log.gate ∷ t.log.behind)) (sym (head_length text.head t.log.head_fits));
  ends = t.log.ends;
}

-- behind the last gate there is no entry

pub none-gone : (octets : List ℕ) (gate : ℕ) (entries : List (List ℕ)) → HasEntriesAt octets gate entries → drop gate octets ≡ [] → entries ≡ []
none-gone octets gate [] h e = refl
none-gone octets gate (x ∷ es) h e = absurd (no_gate (sym h.spelled ∙ e))
  where
    no_gate : (opened (x ∷ es) ++ h.last ∷ h.behind ≡ []) → ⊥
    no_gate e = cc

pub none-closed : (octets : List ℕ) (gate : ℕ) (entries : List (List ℕ)) (value : ℕ) (behind : List ℕ) → HasEntriesAt octets gate entries → drop gate octets ≡ value ∷ behind → (value ≡ 1 → ⊥) → entries ≡ []
none-closed octets gate [] value behind h e closed = refl
none-closed octets gate (x ∷ es) value behind h e closed = absurd (closed (open_gate (sym e ∙ h.spelled)))
  where
    open_gate : (value ∷ behind ≡ opened (x ∷ es) ++ h.last ∷ h.behind) → value ≡ 1
    open_gate e = cc

begins : (e : List ℕ) (es : List (List ℕ)) (gate : ℕ) (rest : List ℕ) → EntryFits e → BeginsRecord ((record_octets e ++ opened es) ++ gate ∷ rest)
begins e [] gate rest f = record { entry = e; fits = f; gate = gate; behind = rest; spelled = ap (λ (t : List ℕ). t ++ gate ∷ rest) (append-nil (record_octets e)) }
begins e (n ∷ es) gate rest f = record { entry = e; fits = f; gate = 1; behind = (record_octets n ++ opened es) ++ gate ∷ rest; spelled = append_assoc (record_octets e) (opened (n ∷ es)) (gate ∷ rest) }

-- what stands behind an open gate
behind_is : (value : ℕ) (behind : List ℕ) (x : List ℕ) (es : List (List ℕ)) (last : ℕ) (rest : List ℕ) → value ∷ behind ≡ opened (x ∷ es) ++ last ∷ rest → behind ≡ (record_octets x ++ opened es) ++ last ∷ rest
behind_is value behind x es last rest e = cc

pub none-broken : (octets : List ℕ) (gate : ℕ) (entries : List (List ℕ)) (value : ℕ) (behind : List ℕ) → HasEntriesAt octets gate entries → drop gate octets ≡ value ∷ behind → (BeginsRecord behind → ⊥) → entries ≡ []
none-broken octets gate [] value behind h e without = refl
none-broken octets gate (x ∷ es) value behind h e without =
    absurd (without (subst BeginsRecord (sym (behind_is value behind x es h.last h.behind (sym e ∙ h.spelled))) (begins x es h.last h.behind (All-head EntryFits x es h.entries_fit))))

-- the next entry
pub one-next : (octets : List ℕ) (gate : ℕ) (entries : List (List ℕ)) (value : ℕ) (behind : List ℕ) → HasEntriesAt octets gate entries → drop gate octets ≡ value ∷ behind → value ≡ 1 → (b : BeginsRecord behind)
    → (rest : List (List ℕ)) × (entries ≡ b.entry ∷ rest) × HasEntriesAt octets (gate + (length b.entry + 5)) rest
one-next octets gate [] value behind h e one b =
    let s : value ∷ behind ≡ h.last ∷ h.behind = sym e ∙ h.spelled in
    let last : h.last ≡ 1 = cc in
    let same : behind ≡ h.behind = cc in
    absurd (stops-ends h.last h.behind h.ends last (subst BeginsRecord same b))
one-next octets gate (x ∷ es) value behind h e one b =
    let t : behind ≡ (record_octets x ++ opened es) ++ h.last ∷ h.behind = behind_is value behind x es h.last h.behind (sym e ∙ h.spelled) in
    let u : record_octets b.entry ++ (b.gate ∷ b.behind) ≡ record_octets x ++ (opened es ++ h.last ∷ h.behind) = sym b.spelled ∙ t ∙ append_assoc (record_octets x) (opened es) (h.last ∷ h.behind) in
    let r : (b.entry ≡ x) × (b.gate ∷ b.behind ≡ opened es ++ h.last ∷ h.behind) = record_same b.entry x (b.gate ∷ b.behind) (opened es ++ h.last ∷ h.behind) b.fits (All-head EntryFits x es h.entries_fit) u in
    let front : drop gate octets ≡ (value ∷ record_octets b.entry) ++ (b.gate ∷ b.behind) = e ∙ ap (λ (l : List ℕ). value ∷ l) b.spelled in (
      es,
      ap (λ (l : List ℕ). l ∷ es) (sym r.0),
      record {
        entries_fit = All-tail EntryFits x es h.entries_fit;
        last = h.last;
        behind = h.behind;
        spelled = sym (drop-drop (length b.entry + 5) gate octets) ∙ behind_front (value ∷ record_octets b.entry) (b.gate ∷ b.behind) (drop gate octets) (length b.entry + 5) front (omega arith) ∙ r.1;
        ends = h.ends;
      },
    )

-- there are no more entries than octets
pub few_entries : (gate : ℕ) (entries : List (List ℕ)) → length entries + gate ≤ end_from gate entries
few_entries gate [] = omega arith
few_entries gate (x ∷ es) = omega (arith, few_entries (gate + 5 + length x) es)

-- so far there are so many entries, and a gate is next
pub record Walked (octets : List ℕ) (head : LogHead) (gate count : ℕ) : Type 0 where
  pub entries : List (List ℕ)
  pub counted : count ≡ length entries
  pub passed : Passed octets head entries (record_places entries) gate

pub walked-few : (octets : List ℕ) (head : LogHead) (gate count : ℕ) → HeadFits head → Walked octets head gate count → count ≤ gate
walked-few octets head gate count f w = omega (arith, w.counted, passed-end octets head w.entries (record_places w.entries) gate f w.passed, few_entries 25 w.entries)

pub walked-more : (octets : List ℕ) (head : LogHead) (gate count : ℕ) → HeadFits head → (w : Walked octets head gate count) → get_or octets gate 0 ≡ 1 → (b : BeginsRecord (drop (gate + 1) octets)) → Walked octets head (gate + (length b.entry + 5)) (count + 1)
walked-more octets head gate count f w opens b =
    let p = passed-more octets head w.entries (record_places w.entries) gate f w.passed opens b in
    record {
      entries = w.entries ++ b.entry ∷ [];
      counted = omega (arith, w.counted, length-append w.entries (b.entry ∷ []));
      passed = subst (λ (places : List ℕ). Passed octets head (w.entries ++ b.entry ∷ []) places (gate + (length b.entry + 5))) p.are_places p;
    }

-- the log that was read of a text
pub text-read : (text : LogText) (octets : List ℕ) (head : LogHead) (read : LogRead) → ((entries : List (List ℕ)) × IsLogText text entries) → text.head ≡ head → octets ≡ text.octets → IsReading octets read × (read.head ≡ head) → IsLogText text read.entries
text-read text octets head read t h e r =
    let l : IsLog text.octets text.head read.entries = subst (λ (o : LogHead). IsLog text.octets o read.entries) (sym h) (read-log octets text.octets head read r e) in
    let same : t.0 ≡ read.entries = (one_log text.octets text.head text.head t.0 read.entries t.1.log l).1 in
    record { log = l; end = t.1.end ∙ ap log_end same; count = t.1.count ∙ ap length same }

-- the last gate stands at a place that is greater than the number of entries
pub text-few : (text : LogText) → (entries : List (List ℕ)) × IsLogText text entries → text.count ≤ text.end
text-few text t = omega (arith, t.1.end, t.1.count, few_entries 25 t.0)
