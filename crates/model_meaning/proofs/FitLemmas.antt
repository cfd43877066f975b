-- Entries that fit, one by one.
use Rattle.std.specs.Prelude.{ℕ, List, [], ◌∷◌, ◌++◌}
use Rattle.std.specs.List.{AllByRecursion}
use Rattle.std.proofs.Common.{sym, subst, append-nil, append_assoc}
use Rattle.mdbox_base.specs.declared.entries.BoxEntry.{BoxEntry}
use Rattle.mdbox_base.specs.declared.entries.MapEntry.{MapEntry}
use Rattle.model_meaning.specs.BoxMeaning.{box_meaning, BoxFits, AllBoxFit}
use Rattle.model_meaning.specs.MapMeaning.{map_meaning}
use Rattle.model_meaning.specs.MapFits.{MapFits, AllMapFit}

-- one more at the end
pub each_more : {X : Type 0} → (P : X → Type 0) (xs : List X) (x : X) → AllByRecursion P xs → P x → AllByRecursion P (xs ++ x ∷ [])
each_more P [] x h p = (p, tt)
each_more P (y ∷ ys) x h p = (h.0, each_more P ys x h.1 p)

-- one of many
pub each_of : {X : Type 0} → (P : X → Type 0) (xs ys : List X) (x : X) → AllByRecursion P (xs ++ x ∷ ys) → AllByRecursion P xs × P x
each_of P [] ys x h = (tt, h.0)
each_of P (y ∷ xs) ys x h = let r = each_of P xs ys x h.1 in ((h.0, r.0), r.1)

-- An entry that fits behind entries that fit, behind others.
pub box_fit_more : (before entries : List BoxEntry) (entry : BoxEntry) → AllBoxFit before entries → BoxFits (box_meaning (before ++ entries)) entry → AllBoxFit before (entries ++ entry ∷ [])
box_fit_more before [] entry h f = (subst (λ (es : List BoxEntry). BoxFits (box_meaning es) entry) (append-nil before) f, tt)
box_fit_more before (e ∷ es) entry h f =
    (h.0, box_fit_more (before ++ e ∷ []) es entry h.1 (subst (λ (o : List BoxEntry). BoxFits (box_meaning o) entry) (sym (append_assoc before (e ∷ []) es)) f))

pub map_fit_more : (store : List ℕ) (before entries : List MapEntry) (entry : MapEntry) → AllMapFit store before entries → MapFits (map_meaning store (before ++ entries)) entry → AllMapFit store before (entries ++ entry ∷ [])
map_fit_more store before [] entry h f = (subst (λ (es : List MapEntry). MapFits (map_meaning store es) entry) (append-nil before) f, tt)
map_fit_more store before (e ∷ es) entry h f =
    (h.0, map_fit_more store (before ++ e ∷ []) es entry h.1 (subst (λ (o : List MapEntry). MapFits (map_meaning store o) entry) (sym (append_assoc before (e ∷ []) es)) f))

-- What fits up to an entry, and that entry.
pub box_fit_of : (before entries rest : List BoxEntry) (entry : BoxEntry) → AllBoxFit before (entries ++ entry ∷ rest) → AllBoxFit before entries × BoxFits (box_meaning (before ++ entries)) entry
box_fit_of before [] rest entry h = (tt, subst (λ (es : List BoxEntry). BoxFits (box_meaning es) entry) (sym (append-nil before)) h.0)
box_fit_of before (e ∷ es) rest entry h =
    let r = box_fit_of (before ++ e ∷ []) es rest entry h.1 in
    ((h.0, r.0), subst (λ (o : List BoxEntry). BoxFits (box_meaning o) entry) (append_assoc before (e ∷ []) es) r.1)

pub map_fit_of : (store : List ℕ) (before entries rest : List MapEntry) (entry : MapEntry) → AllMapFit store before (entries ++ entry ∷ rest) → AllMapFit store before entries × MapFits (map_meaning store (before ++ entries)) entry
map_fit_of store before [] rest entry h = (tt, subst (λ (es : List MapEntry). MapFits (map_meaning store es) entry) (sym (append-nil before)) h.0)
map_fit_of store before (e ∷ es) rest entry h =
    let r = map_fit_of store (before ++ e ∷ []) es rest entry h.1 in
    ((h.0, r.0), subst (λ (o : List MapEntry). MapFits (map_meaning store o) entry) (append_assoc before (e ∷ []) es) r.1)
