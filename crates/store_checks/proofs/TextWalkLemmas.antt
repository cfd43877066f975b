-- Going over the entries of a log that was read.
use Rattle.std.proofs.Common.{◌≡◌, ◌+◌, ℕ, List, [], ◌∷◌, ◌++◌, length, Option, Some, None, inr, refl, sym, ◌∙◌, ap, subst, append_assoc, append-nil, arith}
use Rattle.std.specs.Borrow.{Bor}
use Rattle.disk_model.specs.Disk.{History, IfTold, reading}
use Rattle.disk_model.specs.declared.name.FileName.{FileName}
use Rattle.disk_model.proofs.MomentLemmas.{if_told-map}
use Rattle.model_logs.specs.declared.log_head.LogHead.{LogHead}
use Rattle.model_logs.specs.LogFile.{IsLog, log_end, record_places}
use Rattle.model_logs.proofs.LogFileLemmas.{end_from_more, one_log}
use Rattle.gate_log.specs.Text.{IsLogText, HasEntriesAt, IsNextEntry}
use Rattle.gate_log.specs.Reading.{IsReading}
use Rattle.gate_log.specs.declared.text.LogText.{LogText}
use Rattle.gate_log.specs.declared.read.LogRead.{LogRead}
use Rattle.store_checks.specs.Logs.{IsFirstRefused, IsBadReplay}

-- some of a log's entries were gone over, and the others stand behind this gate
pub record Walk (texts : List (List ℕ)) (octets : List ℕ) (gate : ℕ) : Type 0 where
  pub done : List (List ℕ)
  pub rest : List (List ℕ)
  pub all : texts ≡ done ++ rest
  pub at : gate ≡ log_end done
  pub next : HasEntriesAt octets gate rest

abbrev pub walk-none : (texts : List (List ℕ)) (octets : List ℕ) (gate : ℕ) → HasEntriesAt octets gate texts → gate ≡ 25 → Walk texts octets gate
walk-none texts octets gate next first = record { done = []; rest = texts; all = refl; at = first; next = next }

-- what the walk answers for the entries that are left
abbrev pub Step : List ℕ → ℕ → List ℕ → ℕ → Option (ℕ × Bor (List ℕ)) → Type 0
Step octets gate next_octets next_gate found = (entries : List (List ℕ)) → HasEntriesAt octets gate entries → IsNextEntry gate entries next_octets next_gate found

abbrev pub walk-more : (texts : List (List ℕ)) (octets others : List ℕ) (gate next place : ℕ) (entry : Bor (List ℕ)) → Walk texts octets gate → Step octets gate others next (Some (place, entry)) → Walk texts others next
walk-more texts octets others gate next place entry s step =
    let n = step s.rest s.next in
    record {
      done = s.done ++ entry.now ∷ [];
      rest = n.0;
      all = s.all ∙ ap (λ (t : List (List ℕ)). s.done ++ t) n.1 ∙ sym (append_assoc s.done (entry.now ∷ []) n.0);
      at = let e : log_end (s.done ++ entry.now ∷ []) ≡ log_end s.done + 5 + length entry.now = end_from_more 25 s.done entry.now in
          let g : gate ≡ log_end s.done = s.at in
          let f : next ≡ gate + (length entry.now + 5) = n.3 in
          omega (arith, e, g, f);
      next = n.4;
    }

-- the entry that is next, among all of them
pub record Next (texts done : List (List ℕ)) (place : ℕ) (entry : List ℕ) : Type 0 where
  pub behind : List (List ℕ)
  pub split : texts ≡ done ++ entry ∷ behind
  pub at : place ≡ log_end done + 1

pub walk-next : (texts : List (List ℕ)) (octets others : List ℕ) (gate next place : ℕ) (entry : Bor (List ℕ)) (s : Walk texts octets gate) → Step octets gate others next (Some (place, entry)) → Next texts s.done place entry.now
walk-next texts octets others gate next place entry s step =
    let n = step s.rest s.next in
    record { behind = n.0; split = s.all ∙ ap (λ (t : List (List ℕ)). s.done ++ t) n.1; at = n.2 ∙ ap (λ (g : ℕ). g + 1) s.at }

-- all were gone over
pub walk-end : (texts : List (List ℕ)) (octets others : List ℕ) (gate next : ℕ) (s : Walk texts octets gate) → Step octets gate others next None → texts ≡ s.done
walk-end texts octets others gate next s step = s.all ∙ ap (λ (t : List (List ℕ)). s.done ++ t) (step s.rest s.next) ∙ append-nil s.done

-- ---- replaying

-- the value is what the entries so far mean
pub record Replayed {V : Type 0} (IsReplay : V → List (List ℕ) → Type 0) (value : V) (texts : List (List ℕ)) (octets : List ℕ) (gate : ℕ) : Type 0 where
  pub walk : Walk texts octets gate
  pub replayed : IsReplay value walk.done

pub replayed-more : {V : Type 0} → (IsReplay : V → List (List ℕ) → Type 0) (old new : V) (texts : List (List ℕ)) (octets others : List ℕ) (gate next place : ℕ) (entry : Bor (List ℕ)) → Replayed IsReplay old texts octets gate → Step octets gate others next (Some (place, entry))
    → ((ts : List (List ℕ)) → IsReplay old ts → IsReplay new (ts ++ entry.now ∷ [])) → Replayed IsReplay new texts others next
replayed-more IsReplay old new texts octets others gate next place entry s step taken = record {
  walk = walk-more texts octets others gate next place entry s.walk step;
  replayed = taken s.walk.done s.replayed;
}

pub replayed-bad : {V : Type 0} → (IsReplay : V → List (List ℕ) → Type 0) (Refuses : V → List ℕ → Type 0) (old new : V) (texts : List (List ℕ)) (octets others : List ℕ) (gate next place : ℕ) (entry : Bor (List ℕ)) → Replayed IsReplay old texts octets gate
    → Step octets gate others next (Some (place, entry)) → new ≡ old → Refuses old entry.now → IsFirstRefused IsReplay Refuses new texts place
replayed-bad IsReplay Refuses old new texts octets others gate next place entry s step same refused =
    let n = walk-next texts octets others gate next place entry s.walk step in
    record {
      before = s.walk.done;
      bad = entry.now;
      behind = n.behind;
      texts_are = n.split;
      replayed = subst (λ (v : _). IsReplay v s.walk.done) (sym same) s.replayed;
      refused = subst (λ (v : _). Refuses v entry.now) (sym same) refused;
      is = n.at;
    }

-- an entry that was refused
pub bad_replay : {V : Type 0} → (IsReplay : V → List (List ℕ) → Type 0) (Refuses : V → List ℕ → Type 0) (value : V) (name : FileName) (head : LogHead) (text : LogText) (texts : List (List ℕ)) (place : ℕ) (old : Option History)
    → IsLogText text texts → text.head ≡ head → IfTold old (λ disk. reading (disk name) ≡ Some text.octets) → IsFirstRefused IsReplay Refuses value texts place
    → IfTold old (λ disk. IsBadReplay IsReplay Refuses value head (reading (disk name)) place)
bad_replay IsReplay Refuses value name head text texts place old t h told bad =
    let whole : IsLog text.octets head texts = subst (λ (o : LogHead). IsLog text.octets o texts) h t.log in
    if_told-map _ _ old
    (λ disk there. subst (λ (o : Option (List ℕ)). IsBadReplay IsReplay Refuses value head o place) (sym there) (inr (record {
      before = bad.before;
      bad = bad.bad;
      behind = bad.behind;
      whole = subst (λ (ts : List (List ℕ)). IsLog text.octets head ts) bad.texts_are whole;
      replayed = bad.replayed;
      refused = bad.refused;
      is = bad.is;
    })))
    told

-- the entries of a text are one list
pub same_texts : (text : LogText) (a b : List (List ℕ)) → IsLogText text a → IsLogText text b → a ≡ b
same_texts text a b x y = (one_log text.octets text.head text.head a b x.log y.log).1

-- a text and its entries, as a log that was read
abbrev pub read_of : LogText → List (List ℕ) → LogRead
read_of text texts = record { head = text.head; entries = texts; places = record_places texts; end = text.end }

pub text_reading : (text : LogText) (texts : List (List ℕ)) → IsLogText text texts → IsReading text.octets (read_of text texts)
text_reading text texts t = record { log = t.log; places = refl; end = t.end }
