-- What a run of writes of one file has done.
use mathlib.Core.Path.{fun_ext}
use Rattle.std.proofs.Common.{◌≡◌, ℕ, ◌+◌, ◌-◌, ◌==◌, ◌<◌, ◌≤◌, Bool, true, false, if◌then◌else◌, List, [], ◌++◌, length, take, drop, Option, Some, None, refl, sym, ◌∙◌, ap, subst, inl, inr, arith, All}
use Rattle.std.proofs.lemmas.Bool.{cases_Bool, cond-true, cond-false, eqb-true, eq-eqb}
use Rattle.std.proofs.lemmas.List.{length-append, length-take, length-take-le, length-drop, take-take, take_rest, drop-take, take-append-drop}
use Rattle.std.proofs.lemmas.List.Elements.{All-take}
use Rattle.disk_model.specs.Disk.{FileState, overlaid, written, cut_to}
use Rattle.folder_model.specs.System.{System, IsSystem, IsHalfWritten, IsHalfCut, with_content, weakened}
use Rattle.folder_model.specs.Calls.{Modelled, IfModelled, IsLocked, IsPartlyDone, done_by}
use Rattle.folder_model.proofs.PartLemmas.{written-written, written-nil, written-half, half-written}

-- a change of one file, as one of each file
abbrev changed_at : ℕ → (FileState → FileState) → (ℕ → FileState) → ℕ → FileState
changed_at number step content n = if n == number then step (content n) else content n

if_twice : (b : Bool) (f : FileState) (first second : FileState → FileState) → (if b then second (if b then first f else f) else (if b then first f else f)) ≡ (if b then second (first f) else f)
if_twice true f first second = refl
if_twice false f first second = refl

-- two changes of one file
changed-changed : (number : ℕ) (first second : FileState → FileState) (content : ℕ → FileState)
    → changed_at number second (changed_at number first content) ≡ changed_at number (λ f. second (first f)) content
changed-changed number first second content = fun_ext (λ n. if_twice (n == number) (content n) first second)

-- a change of one file depends on that file alone
changed_like : (number : ℕ) (step other : FileState → FileState) (content : ℕ → FileState) → step (content number) ≡ other (content number)
    → changed_at number step content ≡ changed_at number other content
changed_like number step other content same = fun_ext (λ n. elim (cases_Bool (n == number)) [
  | inl is ↦
      let F : ℕ → Type 0 = λ k. step (content k) ≡ other (content k) in
      cond-true (n == number) _ _ is ∙ subst F (sym (eqb-true n number is)) same ∙ sym (cond-true (n == number) _ _ is)
  | inr apart ↦ cond-false (n == number) _ _ apart ∙ sym (cond-false (n == number) _ _ apart)
])

-- a change that changes nothing
changed_not : (number : ℕ) (step : FileState → FileState) (content : ℕ → FileState) → step (content number) ≡ content number → changed_at number step content ≡ content
changed_not number step content same = fun_ext (λ n. elim (cases_Bool (n == number)) [
  | inl is ↦
      let F : ℕ → Type 0 = λ k. step (content k) ≡ content k in
      cond-true (n == number) _ _ is ∙ subst F (sym (eqb-true n number is)) same
  | inr apart ↦ cond-false (n == number) _ _ apart
])

abbrev with_contents : System → (ℕ → FileState) → System
with_contents s content = record s { content = content }

pub content-content : (number : ℕ) (first second third : FileState → FileState) (s : System) → second (first (s.content number)) ≡ third (s.content number)
    → with_content number second (with_content number first s) ≡ with_content number third s
content-content number first second third s same =
    ap (with_contents s) (changed-changed number first second s.content ∙ changed_like number (λ f. second (first f)) third s.content same)

pub content-not : (number : ℕ) (step : FileState → FileState) (s : System) → step (s.content number) ≡ s.content number → with_content number step s ≡ s
content-not number step s same = ap (with_contents s) (changed_not number step s.content same)

abbrev now : Modelled → System → Modelled
now m s = record m { now = s }

-- no write yet
pub writes-begin : (number at : ℕ) (m : Option Modelled) → IfModelled m IsSystem → IfModelled m (λ s. at ≤ length (s.content number).octets)
    → m ≡ done_by (with_content number (written at [])) m
writes-begin number at None is reaches = refl
writes-begin number at (Some m) is reaches =
    let content = is.contents number in
    sym (ap (λ s. Some (now m s)) (content-not number (written at []) m.now (written-nil (m.now.content number) at reaches content.greatest)))

-- one write more
pub writes-go_on : (number at : ℕ) (a b : List ℕ) (m : Option Modelled) → IfModelled m (λ s. at ≤ length (s.content number).octets)
    → done_by (with_content number (written (at + length a) b)) (done_by (with_content number (written at a)) m) ≡ done_by (with_content number (written at (a ++ b))) m
writes-go_on number at a b None reaches = refl
writes-go_on number at a b (Some m) reaches =
    ap (λ s. Some (now m s)) (content-content number (written at a) (written (at + length a) b) (written at (a ++ b)) m.now (written-written (m.now.content number) at a b reaches))

-- the file's content after a change of it
pub content-here : (number : ℕ) (step : FileState → FileState) (s : System) → (with_content number step s).content number ≡ step (s.content number)
content-here number step s = cond-true (number == number) _ _ (eq-eqb number number refl)

overlaid-reaches : (old : List ℕ) (at : ℕ) (octets : List ℕ) → at ≤ length old → at + length octets ≤ length (overlaid old at octets)
overlaid-reaches old at octets within =
    let first = length-append (take at old ++ octets) (drop (at + length octets) old) in
    let second = length-append (take at old) octets in
    let third = length-take-le at old within in
    omega (arith, first, second, third)

-- the next write begins at the file's end or within it
pub writes-reach : (number at : ℕ) (octets : List ℕ) (m : Option Modelled) → IfModelled m (λ s. at ≤ length (s.content number).octets)
    → IfModelled (done_by (with_content number (written at octets)) m) (λ s. at + length octets ≤ length (s.content number).octets)
writes-reach number at octets None reaches = tt
writes-reach number at octets (Some m) reaches =
    let F : FileState → Type 0 = λ f. at + length octets ≤ length f.octets in
    subst F (sym (content-here number (written at octets) m.now)) (overlaid-reaches (m.now.content number).octets at octets reaches)

-- the lock stays
pub writes-locked : (number : ℕ) (step : FileState → FileState) (m : Option Modelled) → IsLocked m → IsLocked (done_by (with_content number step) m)
writes-locked number step None is = tt
writes-locked number step (Some m) is = is

-- what was written, and what a call wrote of the rest
pub take-part : (octets : List ℕ) (done n : ℕ) → take done octets ++ take n (take (length octets - done) (drop done octets)) ≡ take (done + n) octets
take-part octets done n =
    ap (λ l. take done octets ++ take n l) (take_rest octets done)
    ∙ ap (λ l. take done octets ++ l) (sym (drop-take done n octets))
    ∙ ap (λ l. l ++ drop done (take (done + n) octets)) (sym (take-take done (done + n) octets (omega arith)))
    ∙ take-append-drop done (take (done + n) octets)

-- a call wrote n octets more
pub writes-step : (number at done n : ℕ) (octets : List ℕ) (old now new : Option Modelled) → done ≤ length octets
    → IfModelled old (λ s. at ≤ length (s.content number).octets) → now ≡ done_by (with_content number (written at (take done octets))) old
    → new ≡ done_by (with_content number (written (at + done) (take n (take (length octets - done) (drop done octets))))) now
    → new ≡ done_by (with_content number (written at (take (done + n) octets))) old
writes-step number at done n octets old now new within reaches so next =
    let part = take n (take (length octets - done) (drop done octets)) in
    let long : length (take done octets) ≡ done = length-take-le done octets within in
    next
    ∙ ap (λ m. done_by (with_content number (written (at + done) part)) m) so
    ∙ ap (λ k. done_by (with_content number (written (at + k) part)) (done_by (with_content number (written at (take done octets))) old)) (sym long)
    ∙ writes-go_on number at (take done octets) part old reaches
    ∙ ap (λ l. done_by (with_content number (written at l)) old) (take-part octets done n)

-- how much is left
pub length-take-drop : (octets : List ℕ) (done : ℕ) → length (take (length octets - done) (drop done octets)) ≡ length octets - done
length-take-drop octets done = ap length (take_rest octets done) ∙ length-drop done octets

-- It stopped after so many octets: a part of the write is done.
pub writes-stop : (number at done : ℕ) (octets : List ℕ) (old now : Option Modelled) → All (λ octet. octet < 256) octets → IfModelled old IsSystem
    → IfModelled old (λ s. at ≤ length (s.content number).octets) → now ≡ done_by (with_content number (written at (take done octets))) old
    → IsPartlyDone number (IsHalfWritten at (length octets)) old now
writes-stop number at done octets None now fit is reaches so = inl so
writes-stop number at done octets (Some old) now fit is reaches so =
    let F : Option Modelled → Type 0 = IsPartlyDone number (IsHalfWritten at (length octets)) (Some old) in
    let short : length (take done octets) ≤ length octets = let e = length-take done octets in omega (arith, e) in
    subst F (sym so) (inr (
      refl,
      (
        written at (take done octets) (old.now.content number),
        written-half (old.now.content number) at (length octets) (take done octets) (is.contents number) reaches short (All-take (λ octet. octet < 256) done octets fit),
        true,
        ap (with_contents old.now) (changed_like number (written at (take done octets)) (λ _. written at (take done octets) (old.now.content number)) old.now.content refl),
      ),
    ))

-- A cut that was done is a part of one.
pub cut-part : (number end : ℕ) (old now : Option Modelled) → now ≡ done_by (with_content number (cut_to end)) old → IsPartlyDone number (IsHalfCut end) old now
cut-part number end None now so = inl so
cut-part number end (Some old) now so =
    let F : Option Modelled → Type 0 = IsPartlyDone number (IsHalfCut end) (Some old) in
    subst F (sym so) (inr (
      refl,
      (
        cut_to end (old.now.content number),
        record { end = end; is = refl; least = omega arith },
        true,
        ap (with_contents old.now) (changed_like number (cut_to end) (λ _. cut_to end (old.now.content number)) old.now.content refl),
      ),
    ))

-- a part of the write of the rest
abbrev IsRestPartlyDone : ℕ → ℕ → ℕ → List ℕ → Option Modelled → Option Modelled → Type 0
IsRestPartlyDone number at done octets = IsPartlyDone number (IsHalfWritten (at + done) (length (take (length octets - done) (drop done octets))))

fails-after : (number at done : ℕ) (octets : List ℕ) (old new : Option Modelled) → done ≤ length octets → All (λ octet. octet < 256) octets → IfModelled old IsSystem
    → IfModelled old (λ s. at ≤ length (s.content number).octets)
    → IsRestPartlyDone number at done octets (done_by (with_content number (written at (take done octets))) old) new
    → IsPartlyDone number (IsHalfWritten at (length octets)) old new
fails-after number at done octets old new within fit is reaches (inl same) = writes-stop number at done octets old new fit is reaches same
fails-after number at done octets None new within fit is reaches (inr part) = inl part
fails-after number at done octets (Some old) None within fit is reaches (inr part) = elim part [ ]
fails-after number at done octets (Some old) (Some new) within fit is reaches (inr part) =
    let f = part.1.0 in
    let first = take done octets in
    let rest = length (take (length octets - done) (drop done octets)) in
    let long : length first ≡ done = length-take-le done octets within in
    let size : rest ≡ length octets - done = length-take-drop octets done in
    let F : FileState → Type 0 = λ c. IsHalfWritten (at + done) rest c f in
    let G : ℕ → Type 0 = λ k. IsHalfWritten (at + k) rest (written at first (old.now.content number)) f in
    let half : IsHalfWritten (at + length first) rest (written at first (old.now.content number)) f =
    subst G (sym long) (subst F (content-here number (written at first) old.now) part.1.1) in
    inr (
      part.0,
      (
        f,
        half-written (old.now.content number) f at rest (length octets) first (is.contents number) reaches (omega (arith, long, size)) half,
        part.1.2,
        part.1.3 ∙ ap (weakened part.1.2) (content-content number (written at first) (λ _. f) (λ _. f) old.now refl),
      ),
    )

-- A call failed after so many octets.
pub writes-fail : (number at done : ℕ) (octets : List ℕ) (old now new : Option Modelled) → done ≤ length octets → All (λ octet. octet < 256) octets → IfModelled old IsSystem
    → IfModelled old (λ s. at ≤ length (s.content number).octets) → now ≡ done_by (with_content number (written at (take done octets))) old
    → IsRestPartlyDone number at done octets now new → IsPartlyDone number (IsHalfWritten at (length octets)) old new
writes-fail number at done octets old now new within fit is reaches so part =
    let F : Option Modelled → Type 0 = λ m. IsRestPartlyDone number at done octets m new in
    fails-after number at done octets old new within fit is reaches (subst F so part)
