use Rattle.std.proofs.Common.{◌≡◌, ◌≤◌, ◌∷◌, ◌++◌, [], List, ℕ, length, ap, arith, refl, rules}
use Rattle.std.specs.Prelude.{IsErrOf, codes}
use Rattle.std.proofs.lemmas.Grind.{common_steps}
use Rattle.mdbox_base.specs.Keywords.{AreWords}
use Rattle.mdbox_base.specs.Numbers.{decimal_text}
use Rattle.mdbox_base.specs.Words.{IsName, IsNumber}
use Rattle.mdbox_base.specs.declared.requests.Request.TheVariants as request
use Rattle.script_text.specs.Script.{name_word, spaced}
use Rattle.script_text.specs.declared.error.Flaw.TheVariants as flaw
use Rattle.script_text.proofs.request.asked_with.Goals as goal

pub returns-in_err-name-in-List-clause-memory : goal.returns-in_err-name-in-List-clause-memory
returns-in_err-name-in-List-clause-memory c =
    let some : IsErrOf c.from_residual.result flaw.NoMemory → (name : List ℕ) × IsName name × (c.args.arguments.now ≡ name_word name) = first_of (search rules, grind (arith, common_steps)) in
    rw c.in-List.is (λ is.
    let w = some is in
    (request.List w.0, c.args.rest.now, record { fits = w.1; words_are = ap (λ (t : List ℕ). codes "list" ++ 32 ∷ t) w.2; message_is = refl }))

pub returns-in_err-name-in-Fetch-clause-memory : goal.returns-in_err-name-in-Fetch-clause-memory
returns-in_err-name-in-Fetch-clause-memory c =
    let some : IsErrOf c.from_residual-in_err-name-in-Fetch.result flaw.NoMemory → (name : List ℕ) × (uid : ℕ) × IsName name × IsNumber uid × (c.args.arguments.now ≡ spaced (name_word name ∷ decimal_text uid ∷ [])) = first_of (search rules, grind (arith, common_steps)) in
    rw c.in-Fetch.is (λ is.
    let w = some is in
    (request.Fetch w.0 (record { 0 = w.1 }), c.args.rest.now, record { fits = (w.2, w.3); words_are = ap (λ (t : List ℕ). codes "fetch" ++ 32 ∷ t) w.4; message_is = refl }))

pub returns-in_err-name-in-Flag-clause-memory : goal.returns-in_err-name-in-Flag-clause-memory
returns-in_err-name-in-Flag-clause-memory c =
    let some : IsErrOf c.from_residual-in_err-name-in-Flag.result flaw.NoMemory → (name : List ℕ) × (uid : ℕ) × (flags : ℕ) × IsName name × IsNumber uid × (flags ≤ 31) × (c.args.arguments.now ≡ spaced (name_word name ∷ decimal_text uid ∷ decimal_text flags ∷ [])) = first_of (search rules, grind (arith, common_steps)) in
    rw c.in-Flag.is (λ is.
    let w = some is in
    (request.Flag w.0 (record { 0 = w.1 }) w.2, c.args.rest.now, record { fits = (w.3, w.4, w.5); words_are = ap (λ (t : List ℕ). codes "flag" ++ 32 ∷ t) w.6; message_is = refl }))

pub returns-in_err-name-in-Keywords-clause-memory : goal.returns-in_err-name-in-Keywords-clause-memory
returns-in_err-name-in-Keywords-clause-memory c =
    let some : IsErrOf c.from_residual-in_err-name-in-Keywords.result flaw.NoMemory → (name : List ℕ) × (uid : ℕ) × (keywords : List (List ℕ)) × IsName name × IsNumber uid × AreWords keywords × (c.args.arguments.now ≡ spaced (name_word name ∷ decimal_text uid ∷ decimal_text (length keywords) ∷ keywords)) = first_of (search rules, grind (arith, common_steps)) in
    rw c.in-Keywords.is (λ is.
    let w = some is in
    (request.Keywords w.0 (record { 0 = w.1 }) w.2, c.args.rest.now, record { fits = (w.3, w.4, w.5); words_are = ap (λ (t : List ℕ). codes "keywords" ++ 32 ∷ t) w.6; message_is = refl }))

pub returns-in_err-name-in-Copy-clause-memory : goal.returns-in_err-name-in-Copy-clause-memory
returns-in_err-name-in-Copy-clause-memory c =
    let some : IsErrOf c.from_residual-in_err-name-in-Copy.result flaw.NoMemory → (name : List ℕ) × (uid : ℕ) × (target : List ℕ) × IsName name × IsNumber uid × IsName target × (c.args.arguments.now ≡ spaced (name_word name ∷ decimal_text uid ∷ name_word target ∷ [])) = first_of (search rules, grind (arith, common_steps)) in
    rw c.in-Copy.is (λ is.
    let w = some is in
    (request.Copy w.0 (record { 0 = w.1 }) w.2, c.args.rest.now, record { fits = (w.3, w.4, w.5); words_are = ap (λ (t : List ℕ). codes "copy" ++ 32 ∷ t) w.6; message_is = refl }))

pub returns-in_err-name-in-Move-clause-memory : goal.returns-in_err-name-in-Move-clause-memory
returns-in_err-name-in-Move-clause-memory c =
    let some : IsErrOf c.from_residual-in_err-name-in-Move.result flaw.NoMemory → (name : List ℕ) × (uid : ℕ) × (target : List ℕ) × IsName name × IsNumber uid × IsName target × (c.args.arguments.now ≡ spaced (name_word name ∷ decimal_text uid ∷ name_word target ∷ [])) = first_of (search rules, grind (arith, common_steps)) in
    rw c.in-Move.is (λ is.
    let w = some is in
    (request.Move w.0 (record { 0 = w.1 }) w.2, c.args.rest.now, record { fits = (w.3, w.4, w.5); words_are = ap (λ (t : List ℕ). codes "move" ++ 32 ∷ t) w.6; message_is = refl }))

pub returns-in_err-name-in-Expunge-clause-memory : goal.returns-in_err-name-in-Expunge-clause-memory
returns-in_err-name-in-Expunge-clause-memory c =
    let some : IsErrOf c.from_residual-in_err-name-in-Expunge.result flaw.NoMemory → (name : List ℕ) × (uid : ℕ) × IsName name × IsNumber uid × (c.args.arguments.now ≡ spaced (name_word name ∷ decimal_text uid ∷ [])) = first_of (search rules, grind (arith, common_steps)) in
    rw c.in-Expunge.is (λ is.
    let w = some is in
    (request.Expunge w.0 (record { 0 = w.1 }), c.args.rest.now, record { fits = (w.2, w.3); words_are = ap (λ (t : List ℕ). codes "expunge" ++ 32 ∷ t) w.4; message_is = refl }))

pub returns-in_err-name-in-Make-clause-memory : goal.returns-in_err-name-in-Make-clause-memory
returns-in_err-name-in-Make-clause-memory c =
    let some : IsErrOf c.from_residual-in_err-name-in-Make.result flaw.NoMemory → (name : List ℕ) × IsName name × (c.args.arguments.now ≡ name_word name) = first_of (search rules, grind (arith, common_steps)) in
    rw c.in-Make.is (λ is.
    let w = some is in
    (request.Make w.0, c.args.rest.now, record { fits = w.1; words_are = ap (λ (t : List ℕ). codes "make" ++ 32 ∷ t) w.2; message_is = refl }))

pub returns-in_err-name-in-Delete-clause-memory : goal.returns-in_err-name-in-Delete-clause-memory
returns-in_err-name-in-Delete-clause-memory c =
    let some : IsErrOf c.from_residual-in_err-name-in-Delete.result flaw.NoMemory → (name : List ℕ) × IsName name × (c.args.arguments.now ≡ name_word name) = first_of (search rules, grind (arith, common_steps)) in
    rw c.in-Delete.is (λ is.
    let w = some is in
    (request.Delete w.0, c.args.rest.now, record { fits = w.1; words_are = ap (λ (t : List ℕ). codes "delete" ++ 32 ∷ t) w.2; message_is = refl }))

pub returns-in_err-name-in-Rename-clause-memory : goal.returns-in_err-name-in-Rename-clause-memory
returns-in_err-name-in-Rename-clause-memory c =
    let some : IsErrOf c.from_residual-in_err-name-in-Rename.result flaw.NoMemory → (name : List ℕ) × (target : List ℕ) × IsName name × IsName target × (c.args.arguments.now ≡ spaced (name_word name ∷ name_word target ∷ [])) = first_of (search rules, grind (arith, common_steps)) in
    rw c.in-Rename.is (λ is.
    let w = some is in
    (request.Rename w.0 w.1, c.args.rest.now, record { fits = (w.2, w.3); words_are = ap (λ (t : List ℕ). codes "rename" ++ 32 ∷ t) w.4; message_is = refl }))
