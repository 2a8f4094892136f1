-- The script of the page: its answer to text in the search box.
use Rattle.std.specs.Prelude.{ℕ, List, [], ◌∷◌, codes}
use Rattle.std.specs.List.{concat}

abbrev pub script_text : List ℕ
script_text = concat (
    codes "'use strict';\n"
    ∷ codes "const box = document.getElementById('search'), found = document.getElementById('found');\n"
    ∷ codes "const body = document.querySelector('#table tbody');\n"
    ∷ codes "const number = text => {\n"
    ∷ codes "  const octets = /^[0-9]{1,3}([.][0-9]{1,3}){3}$/.test(text) ? text.split('.').map(Number) : [256];\n"
    ∷ codes "  return octets.every(octet => octet < 256) ? octets.reduce((sum, octet) => sum * 256 + octet) : null;\n"
    ∷ codes "};\n"
    ∷ codes "const rows = Array.from(body.rows, row => {\n"
    ∷ codes "  const [network, length] = row.cells[0].textContent.split('/');\n"
    ∷ codes "  const size = 2 ** (32 - length), words = Array.from(row.cells, cell => cell.textContent).join(' ');\n"
    ∷ codes "  return { row, next: row.nextElementSibling, first: number(network), size, words };\n"
    ∷ codes "});\n"
    ∷ codes "let moved = [];\n"
    ∷ codes "const search = () => {\n"
    ∷ codes "  const typed = box.value.trim().toLowerCase(), address = number(typed), words = typed.split(/ +/);\n"
    ∷ codes "  for (const { row, next } of moved) body.insertBefore(row, next);\n"
    ∷ codes "  const hits = rows.filter(({ row, first, size, words: text }) => {\n"
    ∷ codes "    const hit = address === null ? words.every(word => text.includes(word))\n"
    ∷ codes "      : first <= address && address < first + size;\n"
    ∷ codes "    row.hidden = !hit;\n"
    ∷ codes "    row.classList.remove('best');\n"
    ∷ codes "    return hit;\n"
    ∷ codes "  });\n"
    ∷ codes "  moved = address === null ? [] : hits.slice().reverse();\n"
    ∷ codes "  body.prepend(...moved.map(({ row }) => row));\n"
    ∷ codes "  if (moved.length > 0) moved[0].row.classList.add('best');\n"
    ∷ codes "  found.textContent = typed === '' ? '' : hits.length + ' of ' + rows.length;\n"
    ∷ codes "};\n"
    ∷ codes "box.addEventListener('input', search);\n"
    ∷ codes "search();\n"
    ∷ [])
