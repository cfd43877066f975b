-- What `batch` printed, whole or not, is a prefix of the text of its replies.
use Rattle.std.specs.Prelude.{◌≡◌, ℕ, All, List, [], ◌++◌, map, take, Option, Some, refl}
use Rattle.std.proofs.Common.{sym, ◌∙◌, ap, append-nil}
use Rattle.disk_model.specs.Disk.{Faults, History}
use Rattle.mdbox_base.specs.declared.replies.Reply.{Reply}
use Rattle.mdbox_base.specs.declared.script.Script.{Script}
use Rattle.model_octets.proofs.PiecesLemmas.{split_same}
use Rattle.request_text.specs.BatchText.{batch_text}
use Rattle.request_text.specs.declared.outcome.Outcome.{Outcome}
use Rattle.request_text.specs.declared.outcome.Outcome.TheVariants as outcome
use Rattle.mdbox_top.specs.BatchRun.{IsBatchDone, ShowsReplies}
use Rattle.printed_replies.specs.PrintedReplies.{AreRepliesTo, ReplyHasWords}
use Rattle.printed_replies.proofs.ReplyReadLemmas.{prefix_read}

abbrev Begins : List ℕ → List ℕ → Type 0
Begins printed text = (rest : List ℕ) × (printed ++ rest ≡ text)

-- the same was appended
appended_same : (held x y : List ℕ) → Some (held ++ x) ≡ Some (held ++ y) → x ≡ y
appended_same held x y e = let f : held ++ x ≡ held ++ y = cc e in (split_same held held x y refl f).1

whole_begins : (held printed text : List ℕ) → Some (held ++ printed) ≡ Some (held ++ text) → Begins printed text
whole_begins held printed text e = ([], append-nil printed ∙ appended_same held printed text e)

part_begins : (held printed text given rest : List ℕ) → text ≡ given ++ rest → Some (held ++ printed) ≡ Some (held ++ given) → Begins printed text
part_begins held printed text given rest t e = (rest, ap (λ (l : List ℕ). l ++ rest) (appended_same held printed given e) ∙ sym t)

shown_begins : (text held printed : List ℕ) (replies : List (Option Reply)) (ended : Outcome) → ShowsReplies text replies (Some held) (Some (held ++ printed)) ended → Begins printed text
shown_begins text held printed replies outcome.WriteFault s = part_begins held printed text s.0 s.1 s.2 s.3
shown_begins text held printed replies outcome.NoMemory s = part_begins held printed text s.0 s.1 s.2 s.3
shown_begins text held printed replies other s = whole_begins held printed text s.1

pub batch_prefix_read : {D : Type 0} → (script : Script) (held printed cut : List ℕ) (old new older newer : Option History) (began now before after : Faults) (one other : Outcome) (n : ℕ)
    (a : IsBatchDone D script (Some held) (Some (held ++ printed)) old new began now one) (b : IsBatchDone D script (Some held) (Some (held ++ printed)) older newer before after other)
    → AreRepliesTo script.requests a.given → AreRepliesTo script.requests b.given → All ReplyHasWords a.given → All ReplyHasWords b.given
    → printed ≡ batch_text a.journal (map Some (take n a.given)) ++ cut → take n a.given ≡ take n b.given
batch_prefix_read script held printed cut old new older newer began now before after one other n a b p q v w front =
    let s = shown_begins (batch_text b.journal (map Some b.given)) held printed (map Some b.given) other b.printed in
    prefix_read script.requests a.journal b.journal a.given b.given n printed cut s.0 p q v w front s.1
