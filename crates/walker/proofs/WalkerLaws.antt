-- What the calls on a walker share, step by step of the machine: its file and its cursor as they are passed on, beside the walker, which stays.
use mathlib.Core.Path.{◌≡◌, subst}
use mathlib.Core.List.{List, [], ◌∷◌}
use lib.ListN.{length}
use seplogic.Ra.Ura.{Ura}
use mir.Syntax.{named}
use mir.Val.{Val}
use base.Logic.{SProp, ent, sep}
use base.Fml.{Lft, Share, Fml, ftrue, flft}
use types.Logic.{Logic, sem}
use contract.Lifetimes.{Lfts}
use types.Kit.{‵, raw, ◌⊛◌, given, ⋆, ◌$◌, ◌∵◌, !, qed, move, drop, use1, use2, split, learn, fsplit, fjoin, frame, done}
use denote.RattleType.{RattleType, Valss, owns}
use denote.Laws.{Is}
use denote.Builtin.{u8}
use denote.Signature.{named_lft}
use denote.Slice.{slice_val, ShrSlice}
use denote.Steps.{owned, nothing}
use denote.Struct.Declared.{Declared}
use denote.Struct.Laws as LL
use denote.Struct.Rest.{all_own, field_own, rest, own_open, own_out}
use denote.Struct.Values.{Values}
use Rattle.cursors.specs.declared.Walker.{Walker}
use Rattle.cursors.specs.declared.Cursor.{Cursor}
use Rattle.cursors.specs.contracts.Walker as T
use Rattle.cursors.proofs.Walker.TheLaws as T'
use Rattle.cursors.specs.contracts.Cursor as P
use Rattle.cursors.proofs.Cursor.TheLaws as P'

-- the type of a walker lent for these lifetimes
abbrev pub WalkerFor : Lfts 1 → RattleType
WalkerFor κs = T.the_row (named_lft 1 0 tt κs)

-- what a cursor is related to is its machine value, written out
pub at_lowered : (x : Cursor) (vs : List Val) → Is P.the_row x vs → Is P.the_row x (P'.lowered x ∷ [])
at_lowered x vs p = subst (Is P.the_row x) ((P'.lowers).val_is x vs p) p

-- a walker that is lent for κ: its type with that lifetime, what it owns, and its file and its cursor as they are passed on
module _ (κ : Lft) where
  abbrev pub declared : Declared
  declared = T.the_type (named_lft 1 0 tt (κ, tt))

  abbrev pub its_laws : LL.Laws declared
  its_laws = T'.the_laws (named_lft 1 0 tt (κ, tt))

  module _ (d : Walker) where
    abbrev pub Own : Fml
    Own = (WalkerFor (κ, tt)).own_val d (T'.lowered d ∷ [])

    abbrev pub parts : Values declared.parts
    parts = (d.file, (d.cursor, tt))

    abbrev pub passed : Valss (ShrSlice (named 0) κ u8 ∷ P.the_row ∷ [])
    passed = (slice_val d.file.ref_ptr (length d.file.now) ∷ [], (P'.lowered d.cursor ∷ [], tt))

    module _ (g : Is (WalkerFor (κ, tt)) d (T'.lowered d ∷ [])) where
      pub cursor_is : Is P.the_row d.cursor (P'.lowered d.cursor ∷ [])
      cursor_is = at_lowered d.cursor _ (LL.owed declared its_laws d _ g).1.0

      -- what the walker owns gives what is asked of its file and its cursor, and is kept
      pub apart : {M : Type 1} {𝓤 : Ura M} (𝓛 : Logic 𝓤) (q : Share) (Asked : SProp 𝓤)
          → ent 𝓤 (⋆ 𝓛 ((‵ (flft κ q) ⊛ ‵ ftrue) ∷ ‵ (owns (ShrSlice (named 0) κ u8 ∷ P.the_row ∷ []) parts passed) ∷ [])) Asked
          → ent 𝓤 (⋆ 𝓛 ((‵ (flft κ q) ⊛ ‵ ftrue) ∷ ‵ (owns (WalkerFor (κ, tt) ∷ []) (d, tt) (T'.lowered d ∷ [], tt)) ∷ [])) (sep 𝓤 Asked (sem 𝓛 Own))
      apart 𝓛 q Asked asked =
          qed 𝓛 ((‵ (flft κ q) ⊛ ‵ ftrue) ∷ ‵ (owns (WalkerFor (κ, tt) ∷ []) (d, tt) (T'.lowered d ∷ [], tt)) ∷ []) ∵
          move ! (1 ∷ []) $ fsplit ! $ move ! (1 ∷ []) $ drop ! $ use1 𝓛 (‵ Own ⊛ ‵ Own) ((LL.copy declared (T'.the_copy (named_lft 1 0 tt (κ, tt))) 𝓛).twice d (T'.lowered d ∷ [])) $ split ! $
          use1 𝓛 (given (T'.lowered d ∷ [] ≡ T'.lowered d ∷ []) (‵ (all_own declared.parts its_laws parts))) (own_open 𝓛 declared its_laws parts (T'.lowered d)) $
          learn ! (λ _. use1 𝓛 (‵ (field_own declared.parts its_laws 0 d.file) ⊛ ‵ (rest declared.parts its_laws 0 parts)) (own_out 𝓛 declared.parts its_laws 0 parts) $ split ! $
          -- [what file owns; what cursor owns; what the walker owns; the token]
          move ! (1 ∷ []) $ drop ! $ nothing ! $ owned ! P.the_row (Is P.the_row) (LL.makes P.the_type P'.the_plain 𝓛) d.cursor (P'.lowered d.cursor ∷ []) cursor_is $ fjoin ! $
          move ! (1 ∷ 0 ∷ []) $ fjoin ! $ move ! (2 ∷ 0 ∷ []) $ use2 𝓛 (raw Asked) asked $ frame ! $ done !)
