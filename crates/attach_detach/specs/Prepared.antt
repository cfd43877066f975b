-- A message that is ready to be stored.
use Rattle.std.specs.Prelude.{◌≡◌, ◌+◌, ℕ, List, [], ◌∷◌, All, filter, length, map, Option, Some, None}
use Rattle.sha1.specs.Sha1.{sha1}
use Rattle.mdbox_base.specs.declared.metadata.ExtRef.{ExtRef}
use Rattle.model_mime.specs.declared.mime.Part.{Part}
use Rattle.model_mime.specs.Lines.{range}
use Rattle.model_mime.specs.Parts.{parts_in}
use Rattle.model_attach.specs.Detached.{Piece, IsDetached, IsInstance}
use Rattle.model_attach.specs.VirtualSize.{virtual_size}
use Rattle.attach_detach.specs.declared.message.Detached.{Detached}
use Rattle.attach_detach.specs.declared.message.Prepared.{Prepared}

-- a detached attachment as a piece
abbrev pub piece_of : Detached → Piece
piece_of d = record { start = d.start; count = d.count; form = d.form; octets = d.octets }

-- its hash is the SHA-1 of its instance's octets
abbrev pub HasHash : Detached → Type 0
HasHash d = d.hash ≡ record { 0 = sha1 d.octets }

-- it is this part of a message
pub record IsPieceOf (message : List ℕ) (part : Part) (d : Detached) : Type 0 where
  pub start : d.start ≡ part.start
  pub count : part.start + d.count ≡ part.end
  pub instance : IsInstance part.coding (range message part.start part.end) d.form d.octets
  pub hash : HasHash d

-- The detached form of a message, with the hash of each instance and the sizes of the message.
pub record IsPrepared (message : List ℕ) (p : Prepared) : Type 0 where
  pub detached : IsDetached message (map piece_of p.parts) p.body
  pub hashes : All HasHash p.parts
  pub whole : p.whole ≡ length message
  pub virtual : p.virtual_size ≡ virtual_size message

-- What is found as a message is taken apart: its prepared form, or nothing where none of its parts can be detached.
abbrev pub IsTakenApart : List ℕ → Option Prepared → Type 0
IsTakenApart message (Some prepared) = IsPrepared message prepared
IsTakenApart message None = filter (λ part. part.detachable) (parts_in message) ≡ []

-- A message of which nothing is taken out, with its sizes.
pub record IsPlain (message : List ℕ) (p : Prepared) : Type 0 where
  pub body : p.body ≡ message
  pub parts : p.parts ≡ []
  pub whole : p.whole ≡ length message
  pub virtual : p.virtual_size ≡ virtual_size message

-- These references name detached attachments, in order, one for each.
abbrev pub NameParts : List ExtRef → List Detached → Type 0
NameParts [] [] = Unit {0}
NameParts [] (d ∷ parts) = ⊥
NameParts (ref ∷ refs) [] = ⊥
NameParts (ref ∷ refs) (d ∷ parts) = (ref.start ≡ d.start) × (ref.count ≡ d.count) × (ref.form ≡ d.form) × (ref.hash ≡ d.hash) × NameParts refs parts
