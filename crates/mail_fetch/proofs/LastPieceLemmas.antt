-- The stage behind the last piece of a message.
use Rattle.mail_fetch.proofs.Common.{◌≡◌, ◌<◌, ◌+◌, ℕ, suc, List, refl, ◌∙◌, sym, ap, subst, arith, All, Reply, with_piece, pieces_left, RegionValue, IsReplyFor, HasPieceLeft, StoredAt}
use Rattle.std.proofs.Common.{zero}
use Rattle.mail_fetch.specs.Events.{GoesOnWith}
use Rattle.mail_fetch.specs.Parts.{HasSomeOctets}
use Rattle.mail_fetch.specs.declared.task.FetchStage.TheVariants as stage
use Rattle.mail_fetch.proofs.PartLemmas.{octets_after, pieces_after}

pub last_piece : (region read : RegionValue) (from : StoredAt) (given : Reply) → read ≡ region → from ≡ read.from → pieces_left read.left ≡ 0 → IsReplyFor read.from read.octets given → GoesOnWith region (stage.Unpinning from given)
last_piece region read from given same at last is =
    let none = subst (λ (r : RegionValue). pieces_left r.left ≡ 0) same last in
    record {
      more = λ l. absurd (omega (arith, l, none));
      last = λ l. (given, ap (λ (f : StoredAt). stage.Unpinning f given) (at ∙ ap (λ (r : RegionValue). r.from) same), subst (λ (r : RegionValue). IsReplyFor r.from r.octets given) same is);
    }

-- The stage behind another piece.
pub goes_on_reading : (region read : RegionValue) → read ≡ region → (pieces_left read.left ≡ 0 → ⊥) → GoesOnWith region (stage.Reading read)
goes_on_reading region read same some =
    record {
      more = λ l. ap stage.Reading same;
      last = λ none. absurd (some (ap (λ (r : RegionValue). pieces_left r.left) same ∙ none));
    }

pub some_left : (n : ℕ) → (n ≡ 0 → ⊥) → 0 < n
some_left zero some = absurd (some refl)
some_left (suc n) some = omega arith

pub left_on : (region read : RegionValue) (piece : List ℕ) → HasPieceLeft (stage.Reading region) → read ≡ with_piece region piece → (pieces_left read.left ≡ 0 → ⊥) → HasPieceLeft (stage.Reading read)
left_on region read piece left same some =
    (some_left (pieces_left read.left) some, subst (λ (r : RegionValue). All HasSomeOctets r.left) (sym same) (octets_after region.left left.1))

pub fewer_on : (region read : RegionValue) (piece : List ℕ) → HasPieceLeft (stage.Reading region) → read ≡ with_piece region piece → pieces_left read.left + 2 < pieces_left region.left + 2
fewer_on region read piece left same =
    let one = pieces_after region.left left.1 left.0 in
    let now = ap (λ (r : RegionValue). pieces_left r.left) same in
    omega (arith, one, now)
