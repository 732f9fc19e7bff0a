-- What is said of JSON values (RFC 8259): their members, and the items of lists.
use Rattle.std.specs.Prelude.{◌≡◌, ℕ, ◌⊎◌, List, [], ◌∷◌, Some, None, ⊤}
use Rattle.serde_json.specs.Data as shapes
use Rattle.serde_json.specs.Data.{Data}
use Rattle.serde_json.specs.Find.{get}

-- a value is an object
abbrev pub IsObject : Data → Type 0
IsObject value = (members : shapes.Members) × (value ≡ shapes.object members)

-- a value is a string
abbrev pub IsText : Data → List ℕ → Type 0
IsText value text = value ≡ shapes.string text

-- one of the members has this name
abbrev pub HasName : shapes.Members → List ℕ → Type 0
HasName shapes.no_members name = ⊥
HasName (shapes.member key value found) name = (key ≡ name) ⊎ HasName found name

-- a name is one of these
abbrev pub IsAmong : List (List ℕ) → List ℕ → Type 0
IsAmong [] name = ⊥
IsAmong (one ∷ names) name = (one ≡ name) ⊎ IsAmong names name

-- the members have no other names than these
abbrev pub HasOnly : List (List ℕ) → shapes.Members → Type 0
HasOnly names members = (name : List ℕ) → HasName members name → IsAmong names name

-- a value is an object with no other members than these
abbrev pub IsObjectOf : List (List ℕ) → Data → Type 0
IsObjectOf names json = (members : shapes.Members) × (json ≡ shapes.object members) × HasOnly names members

-- a value has no member of this name
abbrev pub Lacks : List ℕ → Data → Type 0
Lacks name json = get name json ≡ None

-- a value has a member of this name, which is this
abbrev pub Has : {A : Type 0} → (Data → A → Type 0) → List ℕ → Data → A → Type 0
Has Is name json x = (value : Data) × (get name json ≡ Some value) × Is value x

-- each item of a list is one of these things, in order
abbrev pub AreEach : {A : Type 0} → (Data → A → Type 0) → shapes.Items → List A → Type 0
AreEach Is shapes.no_items [] = ⊤
AreEach Is shapes.no_items (x ∷ xs) = ⊥
AreEach Is (shapes.item value items) [] = ⊥
AreEach Is (shapes.item value items) (x ∷ xs) = Is value x × AreEach Is items xs

-- each member is one of these things by its name and its value, in order
abbrev pub AreMembers : {A : Type 0} → (List ℕ → Data → A → Type 0) → shapes.Members → List A → Type 0
AreMembers Is shapes.no_members [] = ⊤
AreMembers Is shapes.no_members (x ∷ xs) = ⊥
AreMembers Is (shapes.member name value found) [] = ⊥
AreMembers Is (shapes.member name value found) (x ∷ xs) = Is name value x × AreMembers Is found xs

-- a value is a list of at least one item
abbrev pub IsFullList : Data → shapes.Items → Type 0
IsFullList value items =
    (first : Data) × (more : shapes.Items) × (items ≡ shapes.item first more) × (value ≡ shapes.array items)

-- a value is one thing, or a list of at least one
abbrev pub IsOneOrMore : {A : Type 0} → (Data → A → Type 0) → Data → List A → Type 0
IsOneOrMore {A} Is value xs = ((x : A) × (xs ≡ x ∷ []) × Is value x)
    ⊎ ((items : shapes.Items) × IsFullList value items × AreEach Is items xs)
