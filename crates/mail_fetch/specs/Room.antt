-- The memory of a fetch, which its first event takes.
use Rattle.std.specs.Prelude.{◌≡◌, ◌≤◌, ◌<◌, ◌+◌, ◌^◌, ℕ, List, [], length, sum_by, All, vec_capacity}
use Rattle.std.specs.Global.{Vec}
use Rattle.mail_fetch.specs.Parts.{octets_to_read}
use Rattle.mail_fetch.specs.declared.parts.Part.{Part}
use Rattle.mail_fetch.specs.declared.parts.StoredAt.{StoredAt}

-- a part has octets, and its numbers are in range
pub record IsPart (part : Part) : Type 0 where
  pub some : 1 ≤ part.size
  pub size : part.size < 2 ^ 32
  pub ends : part.offset + part.size < 2 ^ 33

-- What was read is cut behind a message's header: before that is whole, nothing is behind it.
pub record IsCut (head octets : List ℕ) : Type 0 where
  pub most : length head ≤ 30
  pub order : length head < 30 → octets ≡ []

-- So many octets are to be read, of which these were, and these parts are left.
pub record IsPartlyRead (from : StoredAt) (total : ℕ) (head : Vec ℕ) (read : List ℕ) (left : List Part) : Type 0 where
  pub total_is : total ≡ octets_to_read from
  pub head_room : 30 ≤ vec_capacity head
  pub fits : length read + sum_by (λ part. part.size) left ≤ total
  pub each : All IsPart left
