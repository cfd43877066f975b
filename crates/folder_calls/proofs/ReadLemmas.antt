-- What a run of reads has filled.
use Rattle.std.proofs.Common.{◌≡◌, ℕ, ◌+◌, ◌-◌, ◌≤◌, List, ◌++◌, length, take, drop, sym, ◌∙◌, ap, subst, arith, rules, Option, Some, None}
use Rattle.std.proofs.lemmas.List.{length-take-le, take_at, drop_at, take-append-le, take-take, drop-take, drop-drop, take-append-drop, places}
use Rattle.folder_model.specs.System.{System}
use Rattle.folder_model.specs.Calls.{Modelled, IfSound}
use borrow.Rule.Slice.PartMut.{put_mid, post_of}

-- the first of a list in two parts
pub take-parts : (xs : List ℕ) (done n : ℕ) → take done xs ++ take n (drop done xs) ≡ take (done + n) xs
take-parts xs done n =
    ap (λ l. take done xs ++ l) (sym (drop-take done n xs))
    ∙ ap (λ l. l ++ drop done (take (done + n) xs)) (sym (take-take done (done + n) xs (omega arith)))
    ∙ take-append-drop done (take (done + n) xs)

take-filled : (done n : ℕ) (into part : List ℕ) → done ≤ length into → n ≤ length part
    → take (done + n) (put_mid done (length into - done) into part) ≡ take done into ++ take n part
take-filled done n into part within fewer =
    let all = put_mid done (length into - done) into part in
    let post = post_of done (length into - done) into in
    let long = length-take-le done into within in
    sym (take-parts all done n)
    ∙ ap (λ l. l ++ take n (drop done all)) (take_at (take done into) (part ++ post) done long)
    ∙ ap (λ l. take done into ++ take n l) (drop_at (take done into) (part ++ post) done long)
    ∙ ap (λ l. take done into ++ l) (take-append-le n part post fewer)

filled-step : (into part file : List ℕ) (at done n : ℕ) → done ≤ length into → n ≤ length part → take done into ≡ take done (drop at file)
    → take n part ≡ take n (drop (at + done) file) → take (done + n) (put_mid done (length into - done) into part) ≡ take (done + n) (drop at file)
filled-step into part file at done n within fewer so next =
    take-filled done n into part within fewer
    ∙ ap (λ l. l ++ take n part) so
    ∙ ap (λ l. take done (drop at file) ++ l) (next ∙ ap (λ l. take n l) (sym (drop-drop done at file)))
    ∙ take-parts (drop at file) done n

-- the first octets are those of the file from a place on
abbrev pub IsFilled : ℕ → ℕ → ℕ → List ℕ → System → Type 0
IsFilled number at done into s = take done into ≡ take done (drop at (s.content number).octets)

-- a call read n octets more
pub reads-step : (number at done n : ℕ) (into part : List ℕ) (m now : Option Modelled) → done ≤ length into → n ≤ length part → now ≡ m
    → IfSound m (IsFilled number at done into) → IfSound now (λ s. take n part ≡ take n (drop (at + done) (s.content number).octets))
    → IfSound m (IsFilled number at (done + n) (put_mid done (length into - done) into part))
reads-step number at done n into part m now within fewer is so next =
    let F : Option Modelled → Type 0 = λ o. IfSound o (λ s. take n part ≡ take n (drop (at + done) (s.content number).octets)) in
    go m so (subst F is next)
  where
    go : (m : Option Modelled) → IfSound m (IsFilled number at done into) → IfSound m (λ s. take n part ≡ take n (drop (at + done) (s.content number).octets))
        → IfSound m (IsFilled number at (done + n) (put_mid done (length into - done) into part))
    go None so next = tt
    go (Some m) so next = λ sound. filled-step into part (m.now.content number).octets at done n within fewer (so sound) (next sound)

-- a call that read nothing
pub reads-again : (number at done : ℕ) (into part : List ℕ) (m : Option Modelled) → done ≤ length into
    → IfSound m (IsFilled number at done into) → IfSound m (IsFilled number at done (put_mid done (length into - done) into part))
reads-again number at done into part None within so = tt
reads-again number at done into part (Some m) within so = λ sound.
    take_at (take done into) (part ++ post_of done (length into - done) into) done (length-take-le done into within) ∙ so sound

pub length-filled : (done : ℕ) (into part : List ℕ) → done ≤ length into → length part ≡ length into - done → length (put_mid done (length into - done) into part) ≡ length into
length-filled done into part within long = search (rules, places)
