-- The front of the picture: the style sheet, the hatching and the title, the same for all tanks.
use Rattle.std.specs.Prelude.{[], ◌∷◌, ◌++◌}
use Rattle.text.specs.Bytes.{bytes}
use Rattle.answers.specs.Waiting.{Pieces}

-- the colours of the twelve keys, and the grey of the others
unfoldable pub colours_say : Pieces
colours_say = bytes ".k0{fill:#3b76b8}.k1{fill:#e39b2d}.k2{fill:#3d9970}.k3{fill:#c8506b}\n" ∷ bytes ".k4{fill:#56b4e0}.k5{fill:#8465b0}.k6{fill:#b6a93a}.k7{fill:#7a4b2a}\n" ∷ bytes ".k8{fill:#d983b5}.k9{fill:#2f5d62}.k10{fill:#93b04c}.k11{fill:#a33b2e}\n" ∷ bytes ".k12{fill:#9aa1ab}\n" ∷ []

-- bands, hatching and lines
unfoldable pub shapes_say : Pieces
shapes_say = bytes ".frame{fill:#eef0f3}.held{fill:url(#hatch)}.gap{fill:#ffffff}.tick{stroke:#9aa1ab;fill:none}\n" ∷ bytes ".break{stroke:#6b7480;stroke-width:1.5;fill:none}\n" ∷ []

-- words and numbers
unfoldable pub fonts_say : Pieces
fonts_say = bytes "text{fill:#27313c}.title{font-size:22px;font-weight:bold}.name{font-size:15px;font-weight:bold}\n" ∷ bytes ".key{font-size:13px}.small{font-size:11px;fill:#5b6470}.tiny{font-size:10px;fill:#5b6470;text-anchor:end}\n" ∷ bytes ".edge{font-size:11px;fill:#5b6470;text-anchor:middle}.none{font-size:12px;fill:#9aa1ab;text-anchor:middle}\n" ∷ []

-- the style sheet
unfoldable pub style_says : Pieces
style_says = bytes "<style>\n" ∷ (colours_say ++ (shapes_say ++ (fonts_say ++ bytes "</style>\n" ∷ [])))

-- the hatching, and a white ground
unfoldable pub ground_says : Pieces
ground_says = bytes "<defs><pattern id='hatch' width='8' height='8' patternUnits='userSpaceOnUse' patternTransform='rotate(45)'>" ∷ bytes "<path d='M2 0V8' stroke='#27313c' stroke-width='1.6' stroke-opacity='0.6'/></pattern></defs>\n" ∷ bytes "<rect width='1200' height='960' fill='#ffffff'/>\n" ∷ []

-- the title, and how the bands are to be read
unfoldable pub title_says : Pieces
title_says = bytes "<text class='title' x='30' y='44'>The eight tanks</text>\n<text class='small' x='30' y='66'>" ∷ bytes "Each band has its own scale: position 0 at its left edge, the end of the marked part at its right edge. " ∷ bytes "Behind a break the tank goes on without marks, up to its length.</text>\n" ∷ []

-- all of it
unfoldable pub heading_says : Pieces
heading_says = bytes "<svg xmlns='http://www.w3.org/2000/svg' width='1200' height='960' viewBox='0 0 1200 960' font-family='DejaVu Sans, Verdana, Helvetica, sans-serif'>\n" ∷ (style_says ++ (ground_says ++ title_says))
