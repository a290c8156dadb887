-- What an entry tells of the map that it is of.
use Rattle.kit_words.proofs.Common.{◌≡◌, subst}
use Rattle.std.specs.declared.cmp.PartialEq as eq
use Rattle.std.specs.declared.hash.Hash as hash
use Rattle.std.specs.declared.hash.Hasher as hasher
use Rattle.std.specs.declared.hash.BuildHasher as builder
use Rattle.indexmap.specs.Entry.{MatchEntry}
use Rattle.indexmap.specs.declared.map.entry.Entry.{Entry}
use Rattle.indexmap.specs.declared.map.entry.Entry.TheVariants.{Occupied, Vacant}
use Rattle.indexmap.specs.declared.map.entry.OccupiedEntry.{OccupiedEntry}
use Rattle.indexmap.specs.declared.map.entry.VacantEntry.{VacantEntry}

module _ {K V S A H : Type 0} {g : eq.Ghosts K} {h : hash.Ghosts K} {b : builder.Ghosts S H} {w : hasher.Ghosts H} where
  -- where there is room for an entry, there is none
  pub no_entry : (P Q : Type 0) (e : Entry K V S A H g h b w) (room : VacantEntry K V S A H g h b w)
      → e ≡ Vacant room → MatchEntry e P Q → Q
  no_entry P Q e room is found = subst (λ x. MatchEntry x P Q) is found

  -- what is said of an entry that is there
  pub of_entry : (P Q : Type 0) (e : Entry K V S A H g h b w) (held : OccupiedEntry K V S A H g h b w)
      → e ≡ Occupied held → MatchEntry e P Q → P
  of_entry P Q e held is found = subst (λ x. MatchEntry x P Q) is found
