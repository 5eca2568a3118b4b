-- Values and documents as plain trees, one case a kind. The code's values are seen as these.
use Rattle.std.specs.Prelude.{ℕ, suc, max, ℤ, Bool, List}
use Rattle.ori_bytes.specs.declared.rid.Rid.{Rid}

-- Numbers are those of their kind's range, text is UTF-8, and binaries are bytes. The names of a document's or a map's
-- fields
-- differ and rise in byte order.
mutual
  pub data Tree : Type 0 where
    null : Tree
    boolean : Bool → Tree
    integer : ℤ → Tree
    short : ℤ → Tree
    long : ℤ → Tree
    datetime : ℤ → Tree
    str : List ℕ → Tree
    binary : List ℕ → Tree
    -- the class, which may be empty, and the fields
    embedded : List ℕ → Fields → Tree
    embedded_list : Trees → Tree
    embedded_map : Fields → Tree
    link : Rid → Tree
    link_list : List Rid → Tree
    link_set : List Rid → Tree
    link_map : Links → Tree
    byte : ℤ → Tree

  pub data Trees : Type 0 where
    no_trees : Trees
    more_trees : Tree → Trees → Trees

  -- pairs of a name and a value
  pub data Fields : Type 0 where
    no_pairs : Fields
    pair : List ℕ → Tree → Fields → Fields

  -- pairs of a name and a link
  pub data Links : Type 0 where
    unlinked : Links
    linked : List ℕ → Rid → Links → Links

-- Lists, maps and documents nest one deeper than their deepest item, and an empty one nests 1. Lists, sets and maps of
-- links
-- nest 1, all other values 0.
abbrev mutual
  pub nesting : Tree → ℕ
  nesting null = 0
  nesting (boolean b) = 0
  nesting (integer z) = 0
  nesting (short z) = 0
  nesting (long z) = 0
  nesting (datetime z) = 0
  nesting (str s) = 0
  nesting (binary s) = 0
  nesting (embedded class fields) = suc (fields_nesting fields)
  nesting (embedded_list items) = suc (trees_nesting items)
  nesting (embedded_map fields) = suc (fields_nesting fields)
  nesting (link rid) = 0
  nesting (link_list rids) = 1
  nesting (link_set rids) = 1
  nesting (link_map links) = 1
  nesting (byte z) = 0

  pub trees_nesting : Trees → ℕ
  trees_nesting no_trees = 0
  trees_nesting (more_trees t ts) = max (nesting t) (trees_nesting ts)

  pub fields_nesting : Fields → ℕ
  fields_nesting no_pairs = 0
  fields_nesting (pair name t fs) = max (nesting t) (fields_nesting fs)
