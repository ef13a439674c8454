-- The levels that a table tells have names.
use Rattle.std.proofs.Common.{◌<◌, ℕ, Bool, true, false, length, arith, subst, sym}
use Rattle.std.specs.Prelude.{IfSome, not, Some, None, if◌then◌else◌}
use Rattle.std.proofs.lemmas.Nat.Bits.{bit_at-zero, bit_at-lt, bit_at_and}
use Rattle.bl_level.specs.Level.{SecurityLevel}
use Rattle.bl_level.specs.Scheme.{SchemeNames, IsScheme, HoldsLevel}
use Rattle.bl_policy.specs.declared.access.Access.{Access}
use Rattle.bl_policy.specs.declared.access.Mode.{Mode}
use Rattle.bl_policy.specs.declared.access.Mode.TheVariants.{Read, Append, Write}
use Rattle.bl_policy.specs.Policy.{lowest, nobody}
use Rattle.bl_setup.specs.Setup.{Setup}
use Rattle.bl_state.specs.Whole.{IsCleared, IsWhole}
use Rattle.bl_state.proofs.Kept.{all-get}
use Rattle.bl_explain.specs.Ranges.{hold_at_any_level, meet_of, star_range}
use Rattle.bl_explain.specs.Tests.{is_exempt, tests_on}
use Rattle.bl_rights.specs.Permissions.{first_grounds, is_granted_on, levels_where, permission_of}
use Rattle.bl_rights.specs.Rows.{has_right, row_at, row_of}
use Rattle.bl_rights.specs.declared.permission.Permission.{Permission}
use Rattle.bl_rights.specs.declared.permission.Permission.TheVariants.{NoRight, Now, Exempt}
use Rattle.bl_rights.specs.declared.rows.Row.{Row}
use Rattle.bl_rights_text.specs.Table.{HoldsPermission, IsRowOf}

lowest-held : (scheme : SchemeNames) → IsScheme scheme → HoldsLevel scheme lowest
lowest-held scheme is = record { rank = is.some; categories = λ k has. absurd (omega (arith, has, bit_at-zero k)) }

meet-held : (scheme : SchemeNames) (a b : SecurityLevel) → HoldsLevel scheme a → HoldsLevel scheme b → HoldsLevel scheme (meet_of a b)
meet-held scheme a b one other = record {
  rank = omega (arith, one.rank, other.rank);
  categories = λ k has. one.categories k (omega (arith, has, bit_at_and a.categories b.categories k, bit_at-lt a.categories k));
}

-- what is said of levels, where those of the subject and of the document have names
module _ (scheme : SchemeNames) (is : IsScheme scheme) (greatest level : SecurityLevel) (top : HoldsLevel scheme greatest) (own : HoldsLevel scheme level) where
  where-held : (holds trusted : Bool) (m : Mode)
      → HoldsPermission scheme (levels_where m (if holds then Some (if trusted then record { lowest = lowest; highest = greatest } else star_range greatest level m) else None))
  where-held false trusted m = tt
  where-held true true Read = lowest-held scheme is
  where-held true true Append = top
  where-held true true Write = lowest-held scheme is
  where-held true false Read = own
  where-held true false Append = meet-held scheme greatest level top own
  where-held true false Write = own

  said-held : (a x y : Bool) (other : Permission) → HoldsPermission scheme other
      → HoldsPermission scheme (if not a then NoRight else (if x then Exempt else (if y then Now else other)))
  said-held false x y other held = tt
  said-held true true y other held = tt
  said-held true false true other held = tt
  said-held true false false other held = held

module _ (setup : Setup) (s : ℕ) (whole : IsWhole setup) (known : s < length setup.policy.subjects) where
  pub permission-held : (access : Access) → access.doc < length setup.policy.documents → HoldsPermission setup.names.scheme (permission_of setup.policy s access)
  permission-held access there =
      let scheme = setup.names.scheme in
      let g = first_grounds setup.policy s access in
      let m = access.mode in
      let cleared = all-get (IsCleared scheme) setup.policy.subjects s nobody whole.cleared known in
      let own = all-get (HoldsLevel scheme) setup.policy.documents access.doc lowest whole.held there in
      said-held scheme whole.names.scheme g.greatest g.level cleared.greatest own g.allowed (is_exempt g m) (is_granted_on g m) _
      (where-held scheme whole.names.scheme g.greatest g.level cleared.greatest own (hold_at_any_level (tests_on g m)) g.trusted m)

  row-of-held : (o : ℕ) → o < length setup.policy.documents → IsRowOf setup (row_of setup.policy s o)
  row-of-held o there = record {
    whole = whole;
    known = subst (λ n. s < n) (sym whole.agree.subjects) known;
    there = subst (λ n. o < n) (sym whole.agree.documents) there;
    level = all-get (HoldsLevel setup.names.scheme) setup.policy.documents o lowest whole.held there;
    read = permission-held (record { mode = Read; doc = o }) there;
    append = permission-held (record { mode = Append; doc = o }) there;
    write = permission-held (record { mode = Write; doc = o }) there;
  }

  if-held : (b : Bool) (row : Row) → IsRowOf setup row → IfSome (if b then Some row else None) (λ r. IsRowOf setup r)
  if-held true row held = held
  if-held false row held = tt

  -- where there is a row, it is one of the setup
  pub row-held : (o : ℕ) → o < length setup.policy.documents → IfSome (row_at setup.policy s o) (λ r. IsRowOf setup r)
  row-held o there = if-held (has_right setup.policy s o) (row_of setup.policy s o) (row-of-held o there)
